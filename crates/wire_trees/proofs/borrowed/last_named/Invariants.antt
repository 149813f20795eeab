use Rattle.std.proofs.Common.{◌≡◌, ◌≤◌, length, take}
use Rattle.serde_json.specs.Find.{get_member}
use Rattle.wire_trees.specs.Borrowed.{members_of}
use Rattle.wire_trees.proofs.borrowed.last_named.Given as goal

abbrev pub invariant-loop-left : goal.invariant-loop-left
invariant-loop-left l = (get_member l.name (members_of l.members.items) ≡ get_member l.name (members_of (take l.left l.members.items))) × (l.left ≤ length l.members.items)

abbrev pub decreases-loop-left : goal.decreases-loop-left
decreases-loop-left l = l.left
