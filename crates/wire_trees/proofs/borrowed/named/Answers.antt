use Rattle.std.proofs.Common.{sym, ◌∙◌}
use Rattle.wire_trees.proofs.MemberLemmas.{marked, unmarked}
use Rattle.wire_trees.proofs.borrowed.named.Goals as goal

pub returns-then-not-is_marked : goal.returns-then-not-is_marked
returns-then-not-is_marked c = sym (unmarked c.args.lengths c.args.name.now c.args.members.now.items (sym c.is_marked.ensures ∙ c.if-not-is_marked.true))

pub returns : goal.returns
returns c = c.last_named.ensures ∙ sym (marked c.args.lengths c.args.name.now c.args.members.now.items (sym c.is_marked.ensures ∙ c.if-not-is_marked.false))
