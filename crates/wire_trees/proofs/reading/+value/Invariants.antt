use Rattle.std.proofs.Common.{◌+◌, ◌*◌, length}
use Rattle.wire_trees.specs.Borrowed.{AllMarked, members_of}
use Rattle.wire_trees.proofs.ReadingLemmas.{ItemsSoFar, MembersSoFar}
use Rattle.wire_trees.proofs.reading.+value.Given as goal

abbrev pub decreases-value : goal.decreases-value
decreases-value l = 5 * l.depth + 2

abbrev pub decreases-list : goal.decreases-list
decreases-list l = 5 * l.depth + 1

abbrev pub decreases-object : goal.decreases-object
decreases-object l = 5 * l.depth + 1

abbrev pub decreases-items : goal.decreases-items
decreases-items l = 5 * l.depth + 3

abbrev pub decreases-members : goal.decreases-members
decreases-members l = 5 * l.depth + 3

abbrev pub invariant-items-items : goal.invariant-items-items
invariant-items-items l = ItemsSoFar l.depth l.initial.reader l.found.items l.reader

abbrev pub decreases-items-items : goal.decreases-items-items
decreases-items-items l = length l.reader

abbrev pub invariant-members-members : goal.invariant-members-members
invariant-members-members l = MembersSoFar l.depth l.initial.reader (members_of l.found.items) l.reader × AllMarked l.lengths l.found.items

abbrev pub decreases-members-members : goal.decreases-members-members
decreases-members-members l = length l.reader
