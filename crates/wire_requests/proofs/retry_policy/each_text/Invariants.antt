use Rattle.std.proofs.Common.{drop}
use Rattle.wire_fields.specs.Kinds.{text_of}
use Rattle.wire_fields.proofs.ElementLemmas.{Reading}
use Rattle.wire_requests.proofs.retry_policy.each_text.Given as goal

abbrev pub invariant-loop-value : goal.invariant-loop-value
invariant-loop-value g l = Reading g.V.Tree.stands_for (text_of l.field) l.values l.texts.items (drop l.value-index l.values)
