-- PROOF: What the steps on a ring tell that its own crate has not: those that see what waits.
use Rattle.std.specs.Prelude.{◌≡◌, ◌≢◌, ◌⊎◌, ℕ, ◌+◌, ◌-◌, ◌<◌, ◌≤◌, List, [], length, slice_set}
use mathlib.Core.Option.{some}
use lib.ListN.{get_elem?}
use Rattle.std.specs.Prelude.{Option}
use Rattle.atomic_table.specs.Table.{Me, Step}
use Rattle.crossbeam_queue.specs.Fifo.{Held}
use Rattle.crossbeam_queue.specs.Passes.{Pass}
use Rattle.crossbeam_queue.specs.declared.array_queue.Doing.{Doing}
use Rattle.crossbeam_queue.specs.declared.array_queue.Stage.TheVariants.{SawTail}
use Rattle.crossbeam_queue.specs.Stamps.{stamp}
use Rattle.service_model_types.specs.declared.request.Hint.{Hint}
use Rattle.matching.specs.declared.view.View.{View}
use Rattle.matching.specs.declared.line.Line.{Line}
use Rattle.matching.specs.PassSteps.{Sees}
use Rattle.matching.specs.Rule.{IsLast}
use Rattle.matching.specs.ToldHints.{Compares}

-- whatever a queue holds and whatever the others know, the rule stays when this pass's view becomes some w
abbrev pub Tells : (List Hint → List View → Type 0) → ℕ → View → (List Hint → View → Type 0) → Type 0
Tells holds seat v then =
    (items : List Hint) (views : List View) → holds items views → get_elem? views seat ≡ some v → (w : View)
    × holds items (slice_set views seat w) × then items w

-- the seat is one at this queue, and no slot is out with it
abbrev pub IsSeatOf : Line → Pass Hint View → Type 0
IsSeatOf l p = (p.table_id ≡ l.table.shared.table_id) × (p.me.1 ≡ [])

-- what a seat knows and has in hand
abbrev pub Sat : Type 0
Sat = Me (Option Hint) (Doing Hint View)

-- so many hints waited at the moment, and the pass saw them
abbrev pub SawMany : ℕ → Sat → Sat → Type 0
SawMany n m m' = Held n (λ waiting. Sees m.0.client waiting m'.0.client)

-- the head is a lap short of the tail that was seen
abbrev pub IsLapBehind : Step (Option Hint) → Sat → ℕ → Type 0
IsLapBehind st m r = (st.slots ≤ m.0.at) × (r ≡ stamp st.slots (m.0.at - st.slots))

-- a look whether the queue is full
abbrev pub saw_full_queue : Step (Option Hint) → Sat → ℕ → Sat → Type 0
saw_full_queue st m r m' = (m'.1 ≡ m.1) × (IsLapBehind st m r → SawMany st.slots m m') × (¬ IsLapBehind st m r → m'.0.client ≡ m.0.client)

-- a look whether it is empty: the tail is at the head that was seen
abbrev pub saw_empty_queue : Step (Option Hint) → Sat → ℕ → Sat → Type 0
saw_empty_queue st m r m' =
    (m'.1 ≡ m.1) × (r ≡ stamp st.slots m.0.at → SawMany 0 m m') × (r ≢ stamp st.slots m.0.at → m'.0.client ≡ m.0.client)

-- a look that compares what was told
abbrev pub saw_told : Step (Option Hint) → Sat → ℕ → Sat → Type 0
saw_told st m r m' = (m'.1 ≡ m.1) × Compares m.0.client m'.0.client

-- a look once all passes are handed in
abbrev pub saw_all : Sat → Sat → Type 0
saw_all m m' = (m'.1 ≡ m.1) × (m'.0.client ≡ m.0.client) × (waiting : List Hint) × IsLast m.0.client waiting

-- a look at the head once a tail was seen: so many hints waited at the moment as the head is short of the tail there
abbrev pub saw_count : Step (Option Hint) → Sat → ℕ → Sat → Type 0
saw_count st m r m' = (m'.1 ≡ m.1) × (m'.0.stage ≡ SawTail) × (m.0.at ≤ m'.0.at)
    × ((h : ℕ) × (r ≡ stamp st.slots h) × (h ≤ m'.0.at) × (m'.0.at ≤ h + st.slots) × SawMany (m'.0.at - h) m m')

-- a pass has seen nothing more, or what was put and taken until some moment
abbrev pub HasLooked : View → View → Type 0
HasLooked v w = (w ≡ v) ⊎ ((waiting : List Hint) × Sees v waiting w)

-- a pass found room before it pushes: the queue has no more than it may, or it saw fewer hints wait
abbrev pub FoundRoom : View → ℕ → View → Type 0
FoundRoom v most w = ((v.capacity ≡ most) × (w ≡ v)) ⊎ ((waiting : List Hint) × (length waiting < most) × Sees v waiting w)
