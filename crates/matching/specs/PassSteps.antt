-- MEANING: What each step on a queue tells the pass that makes it.
use Rattle.std.specs.Prelude.{◌≡◌, ℕ, ◌+◌, ◌<◌, ◌≤◌, List, [], ◌∷◌, ◌++◌, length}
use Rattle.service_model_types.specs.declared.request.Hint.{Hint}
use Rattle.crossbeam_queue.specs.Fifo.{Held}
use Rattle.matching.specs.declared.view.View.{View}
use Rattle.matching.specs.declared.view.Holder.TheVariants.{Nobody, Pass, Maker}
use Rattle.matching.specs.Entries.{Entry, by_first, own_of}
use Rattle.matching.specs.Moments.{IsMoment}

-- what the maker of passes knows of a queue that is opened with these hints: how many passes and shards there will
-- be, and for how many hints there is room
abbrev pub maker : ℕ → ℕ → ℕ → List Hint → View
maker given shards capacity waiting = record {
  kind = Maker;
  number = 0;
  made = 0;
  given = given;
  shards = shards;
  capacity = capacity;
  opened = waiting;
  put = by_first waiting;
  taken = [];
  pushed = [];
  popped = [];
  told_put = [];
  told_taken = [];
  handed = [];
}

-- what nobody knows
abbrev pub nobody : View
nobody = record {
  kind = Nobody;
  number = 0;
  made = 0;
  given = 0;
  shards = 0;
  capacity = 0;
  opened = [];
  put = [];
  taken = [];
  pushed = [];
  popped = [];
  told_put = [];
  told_taken = [];
  handed = [];
}

-- the maker after a pass was made
abbrev pub made_one : View → View
made_one v = record v { made = v.made + 1 }

-- what the new pass knows
abbrev pub newcomer : View → View
newcomer v = record v {
  kind = Pass;
  number = v.made;
  made = 0;
  pushed = own_of v.made v.put;
  popped = [];
  told_put = [];
  told_taken = [];
  handed = [];
}

-- a new pass: it has seen what the queue was opened with, which pass 0 has pushed
abbrev pub fresh : ℕ → ℕ → ℕ → List Hint → ℕ → View
fresh given shards capacity waiting number = record {
  kind = Pass;
  number = number;
  made = 0;
  given = given;
  shards = shards;
  capacity = capacity;
  opened = waiting;
  put = by_first waiting;
  taken = [];
  pushed = own_of number (by_first waiting);
  popped = [];
  told_put = [];
  told_taken = [];
  handed = [];
}

-- the pass after it pushed a hint after all that was put
abbrev pub with_put : View → List Entry → List Entry → Hint → View
with_put v put taken x = record v { put = put ++ (v.number, x) ∷ []; taken = taken; pushed = v.pushed ++ (v.number, x) ∷ [] }

-- the pass after it popped a hint, the first that was not taken
abbrev pub with_taken : View → List Entry → List Entry → Hint → View
with_taken v put taken x = record v { put = put; taken = taken ++ (v.number, x) ∷ []; popped = v.popped ++ (v.number, x) ∷ [] }

-- the pass after it has seen that all this was put and taken
abbrev pub with_seen : View → List Entry → List Entry → View
with_seen v put taken = record v { put = put; taken = taken }

-- a push: at a moment when the queue had room, the hint came after all that was put
pub record Puts (v : View) (x : Hint) (w : View) : Type 0 where
  pub put : List Entry
  pub taken : List Entry
  pub waiting : List Hint
  pub moment : IsMoment v put taken waiting
  pub room : length waiting < v.capacity
  pub knows : w ≡ with_put v put taken x

-- a pop: at a moment when the hint was the first that waited, it was taken
pub record Takes (v : View) (x : Hint) (w : View) : Type 0 where
  pub put : List Entry
  pub taken : List Entry
  pub rest : List Hint
  pub moment : IsMoment v put taken (x ∷ rest)
  pub knows : w ≡ with_taken v put taken x

-- a look: at some moment these hints waited, and the pass has seen what was put and taken until then
pub record Sees (v : View) (waiting : List Hint) (w : View) : Type 0 where
  pub put : List Entry
  pub taken : List Entry
  pub moment : IsMoment v put taken waiting
  pub knows : w ≡ with_seen v put taken

-- at one moment fewer than so many hints waited
abbrev pub HadRoom : View → ℕ → Type 0
HadRoom v most = (waiting : List Hint) × (w : View) × (length waiting < most) × Sees v waiting w

-- at one moment so many hints waited or more, no more than the queue has room for, and the pass has seen what was put
-- and taken until then
abbrev pub FindsMany : View → ℕ → View → Type 0
FindsMany v least w = (n : ℕ) × (least ≤ n) × (n ≤ v.capacity) × Held n (λ waiting. Sees v waiting w)
