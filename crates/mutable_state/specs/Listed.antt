-- PROOF: the lists in which what is in use lies, with the first deadline of each thing
use Rattle.std.specs.Prelude.{◌-◌}
use Rattle.std.specs.Vec.{vec_len, vec_capacity}
use Rattle.mutable_state.specs.declared.in_use.Lists.{Lists}
use Rattle.mutable_state.specs.Filed.{firsts_of, AreFiled}
use Rattle.mutable_state.specs.Opens.{OpenRows}
use Rattle.mutable_state.specs.Rows.{living, AreKept}

-- what is in use
abbrev pub in_lists : Lists → OpenRows
in_lists l = record {
  rows = living l.rows.items;
  room = vec_capacity l.rows - vec_len l.rows;
  due_room = l.deadlines.room;
  firsts = firsts_of l.deadlines.members l.rows.items;
  last = l.last;
}

-- the rows are in order, and each deadline is a row's
abbrev pub AreInOrder : Lists → Type 0
AreInOrder l = AreKept l.rows.items l.last l.has_marked × AreFiled l.deadlines.members l.rows.items
