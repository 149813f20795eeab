use Rattle.std.proofs.Common.{◌∙◌, ap, filter, length}
use Rattle.mutable_state.specs.Opens.{is_pending_of}
use Rattle.mutable_state.proofs.RowLemmas.{count-living}
use Rattle.mutable_state.proofs.in_use.InUse.count.Goals as goal

pub returns : goal.returns
returns c =
    c.count_pending.ensures ∙ count-living (is_pending_of c.args.class) c.rows.result.now ∙ ap (λ os. length (filter (is_pending_of c.args.class) os)) c.rows.ensures.alive
