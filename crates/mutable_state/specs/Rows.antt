-- PROOF: the rows in which what is in use lies, in the order of the events that opened it
use Rattle.std.specs.Prelude.{◌≡◌, ◌≢◌, ℕ, ◌<◌, ◌≤◌, Bool, true, false, List, [], ◌∷◌, map, filter_map, length, slice_index_or, slice_get, Option, None, Some, option_and_then}
use Rattle.std.specs.List.{AllByRecursion}
use Rattle.wf_event.specs.declared.event.Event.{Event}
use Rattle.wf_event.specs.declared.role.Class.{Class}
use Rattle.wf_event.specs.declared.role.Opener.{Opener}
use Rattle.service_model_types.specs.declared.journal.Note.{Note}
use Rattle.mutable_state.specs.declared.activity.NotedActivity.{NotedActivity}
use Rattle.mutable_state.specs.declared.open.Open.{Open}
use Rattle.mutable_state.specs.declared.rows.Row.{Row}
use Rattle.mutable_state.specs.Noted.{MayAdd, noted}
use Rattle.mutable_state.specs.Opens.{is_one, is_unmarked, is_pending_of}
use Rattle.mutable_state.specs.Readers.{UsedRow, used_at}
use Rattle.mutable_state.specs.Activities.{activity_at}

abbrev pub keys : List Row → List ℕ
keys rs = map (λ (r : Row). r.event) rs

-- what is in use
abbrev pub living : List Row → List Open
living rs = filter_map (λ (r : Row). r.kept) rs

-- keys rise
abbrev pub AreRising : List ℕ → Type 0
AreRising [] = Unit {0}
AreRising (k ∷ ks) = AllByRecursion (λ j. k < j) ks × AreRising ks

-- the key stands at the place, or nowhere
abbrev pub IsPlaceOf : ℕ → List ℕ → Option ℕ → Type 0
IsPlaceOf key ks None = (k : ℕ) → k < length ks → slice_index_or ks k 0 ≢ key
IsPlaceOf key ks (Some p) = (p < length ks) × (slice_index_or ks p 0 ≡ key)

-- what is here was opened by the event
abbrev pub NamedBy : ℕ → Option Open → Type 0
NamedBy id None = Unit {0}
NamedBy id (Some o) = o.opener.event ≡ id

abbrev pub IsNamed : Row → Type 0
IsNamed r = NamedBy r.event r.kept

-- whether what is here passes a test
abbrev pub passes : (Open → Bool) → Option Open → Bool
passes p None = false
passes p (Some o) = p o

-- whether this one is here
abbrev pub is_at : Opener → Row → Bool
is_at k r = passes (is_one k) r.kept

abbrev pub is_pending_at : Class → Row → Bool
is_pending_at c r = passes (is_pending_of c) r.kept

abbrev pub is_unmarked_at : Row → Bool
is_unmarked_at r = passes is_unmarked r.kept

-- this one is at the place, and nowhere else
pub record IsRowAt (k : Opener) (rs : List Row) (p : ℕ) : Type 0 where
  pub row : Row
  pub there : slice_get rs p ≡ Some row
  pub within : p < length rs
  pub is : is_at k row ≡ true
  pub others : (j : ℕ) (r : Row) → j ≢ p → slice_get rs j ≡ Some r → is_at k r ≡ false

-- this one is at the place, or nowhere
abbrev pub HasRow : Opener → List Row → Option ℕ → Type 0
HasRow k rs None = (j : ℕ) (r : Row) → slice_get rs j ≡ Some r → is_at k r ≡ false
HasRow k rs (Some p) = IsRowAt k rs p

abbrev pub marked_in : Open → Open
marked_in o = record o { is_settled = true }

abbrev pub asked_one : Open → Open
asked_one o = record o { notes = record o.notes { cancel_requested = true } }

abbrev pub noted_one : ℕ → Note → Open → Open
noted_one at n o = record o { notes = noted at n o.notes }

abbrev pub MayAddIn : Note → Option Open → Type 0
MayAddIn n None = Unit {0}
MayAddIn n (Some o) = MayAdd n o.notes

-- rows rise, none is above the last event that opened something, each has what its event opened, and none is marked where none may be
pub record AreKept (rs : List Row) (last : ℕ) (has_marked : Bool) : Type 0 where
  pub rising : AreRising (keys rs)
  pub low : AllByRecursion (λ j. j ≤ last) (keys rs)
  pub named : AllByRecursion IsNamed rs
  pub marks : has_marked ≡ false → AllByRecursion (λ (o : Open). o.is_settled ≡ false) (living rs)

-- what is read of what is here
abbrev pub read_in : {X : Type 0} → (Open → Option X) → Row → Option X
read_in f r = option_and_then f r.kept

abbrev pub used_in : Class → List Event → Row → Option UsedRow
used_in c es r = read_in (used_at c es) r

abbrev pub activity_in : List Event → Row → Option NotedActivity
activity_in es r = read_in (activity_at es) r
