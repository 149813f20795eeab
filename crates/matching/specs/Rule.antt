-- PROOF: The rule of a queue of hints, over what it holds and what each seat knows.
-- There is a list of all hints ever put and one of those taken, which only grow. What was put is what was taken and
-- then what the queue holds.
use Rattle.std.specs.Prelude.{◌≡◌, ℕ, ◌<◌, ◌≤◌, List, ◌++◌}
use mathlib.Core.Option.{some}
use lib.ListN.{get_elem?}
use Rattle.service_model_types.specs.declared.request.Hint.{Hint}
use Rattle.matching.specs.declared.view.Part.{Part}
use Rattle.matching.specs.declared.view.View.{View}
use Rattle.matching.specs.declared.view.Holder.TheVariants.{Nobody, Pass, Maker}
use Rattle.matching.specs.Entries.{Entry, Begins, by_first, FromGiven, FromShards, hints}
use Rattle.matching.specs.AtClose.{part_of, HasDone}

-- what is true of a pass that was handed in to another: its seat is spent
pub record IsHanded (made : ℕ) (holder : ℕ → ℕ) (views : List View) (put taken : List Entry) (t : Part) : Type 0 where
  pub known : t.number < made
  pub done : HasDone t put taken
  pub spent : (u : View) × (get_elem? views (holder t.number) ≡ some u) × (u.kind ≡ Nobody)

-- what is true of a pass: its entries are its own pushes and pops
pub record IsPass (waiting : List Hint) (all width made : ℕ) (holder : ℕ → ℕ) (views : List View) (put taken : List Entry) (id : ℕ)
    (v : View) : Type 0 where
  pub sits : holder v.number ≡ id
  pub known : v.number < made
  pub told : (v.given ≡ all) × (v.shards ≡ width) × (v.opened ≡ waiting)
  pub done : HasDone (part_of v) put taken
  pub handed : (i : ℕ) (t : Part) → get_elem? v.handed i ≡ some t → IsHanded made holder views put taken t

-- what is true of the maker of passes
pub record IsMaker (waiting : List Hint) (all width made id : ℕ) (v : View) : Type 0 where
  pub first : id ≡ 0
  pub counts : v.made ≡ made
  pub told : (v.given ≡ all) × (v.shards ≡ width) × (v.opened ≡ waiting)
  pub put : v.put ≡ by_first waiting

-- what is true of each seat: it has seen, and was told, a beginning of what was put and of what was taken
pub record IsSeat (waiting : List Hint) (all width made : ℕ) (holder : ℕ → ℕ) (views : List View) (put taken : List Entry) (id : ℕ)
    (v : View) : Type 0 where
  pub seen_put : Begins v.put put
  pub seen_taken : Begins v.taken taken
  pub told_put : Begins v.told_put put
  pub told_taken : Begins v.told_taken taken
  pub pass : v.kind ≡ Pass → IsPass waiting all width made holder views put taken id v
  pub maker : v.kind ≡ Maker → IsMaker waiting all width made id v

-- a queue that was opened with these hints, for so many passes and shards
pub record Kept (waiting : List Hint) (all width : ℕ) (items : List Hint) (views : List View) : Type 0 where
  pub put : List Entry
  pub taken : List Entry
  -- what was put since the opening
  pub more : List Entry
  -- how many passes were made
  pub made : ℕ
  pub few : made ≤ all
  pub holder : ℕ → ℕ
  pub opened : put ≡ by_first waiting ++ more
  pub split : hints put ≡ hints taken ++ items
  pub shards : FromShards width items
  pub known_more : FromGiven made more
  pub known_taken : FromGiven made taken
  pub each : (id : ℕ) (v : View) → get_elem? views id ≡ some v → IsSeat waiting all width made holder views put taken id v

-- what a pass that has taken in the others knows at the end
pub record IsLast (v : View) (items : List Hint) : Type 0 where
  pub put : List Entry
  pub taken : List Entry
  pub more : List Entry
  pub opened : put ≡ by_first v.opened ++ more
  pub split : hints put ≡ hints taken ++ items
  pub given_more : FromGiven v.given more
  pub given_taken : FromGiven v.given taken
  pub done : HasDone (part_of v) put taken
  pub handed : (i : ℕ) (t : Part) → get_elem? v.handed i ≡ some t → HasDone t put taken
