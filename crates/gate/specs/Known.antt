-- MEANING: What the words of contracts stand on: the list of a slot, what a gate is opened with, and what a pass knows once it leaves.
use Rattle.std.specs.Prelude.{ℕ, List, [], ◌++◌, map, slice_index_or, slice_set, None}
use Rattle.gate.specs.declared.view.Origin.{Origin}
use Rattle.gate.specs.declared.view.Taken.{Taken}
use Rattle.gate.specs.declared.view.View.{View}
use Rattle.gate.specs.Records.{past}
use Rattle.step_record.specs.declared.entry.Entry.{Entry}

-- the list of slot k
abbrev pub at : {A : Type 0} → List (List A) → ℕ → List A
at xs k = slice_index_or xs k []

module _ {Q C : Type 0} where
  -- the record with which slot k was opened
  abbrev pub base : Origin Q C → ℕ → List (Entry Q)
  base o k = at o.bases k

  -- what the gate is opened with
  abbrev pub origin_of : {X : Type 0} → (X → C) → (X → List (Entry Q)) → List X → ℕ → Origin Q C
  origin_of start log xs passes = record { starts = map start xs; bases = map log xs; passes = passes }

  -- what is kept of a pass that is handed in
  abbrev pub as_taken : View Q C → Taken Q
  as_taken v = record { number = v.number; seen = v.seen; mine = v.mine; tickets = v.tickets }

  -- the pass out of the slot k, where its record and its tickets are now these
  abbrev pub recorded : View Q C → ℕ → List (Entry Q) → List ℕ → View Q C
  recorded v k log tickets = record v {
    inside = None;
    held = [];
    held_tickets = [];
    drawn = [];
    late = [];
    seen = slice_set v.seen k log;
    mine = slice_set v.mine k (at v.mine k ++ past v.held log);
    tickets = slice_set v.tickets k tickets;
  }
