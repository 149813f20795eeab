-- MEANING: how the lines of a script are served over several lanes: line by line, in the order of the lines
use Rattle.std.specs.Prelude.{◌≡◌, ℕ, List, [], ◌∷◌, map, set, slice_get, Option, None, Some, Result, Ok, Err}
use Rattle.wf_event_values.specs.declared.field.Field.TheVariants as field
use Rattle.wf_event_values.specs.declared.refusal.Refusal.{Refusal}
use Rattle.wf_event_values.specs.declared.refusal.Refusal.TheVariants.{InvalidArgument}
use Rattle.service_model_types.specs.declared.call.Call.{Call}
use Rattle.service_model_types.specs.declared.settings.Settings.{Settings}
use Rattle.service_model_types.specs.Replies.{Reply}
use Rattle.service.specs.ServiceViews.{Pass}
use Rattle.wire_requests.specs.declared.calls.Asked.{Asked}
use Rattle.wire_requests.specs.declared.calls.Asked.TheVariants.{Barrier as a_barrier, Call as in_a_lane}
use Rattle.script.specs.Asked.{asked}
use Rattle.script.specs.Lines.{Line}

-- how a door serves: a call of a pass that knew this, and then knew that, was answered so
abbrev pub Serves : Type 1
Serves = Pass → Pass → Call → Reply → Type 0

-- how passes meet at a door: two passes as they were, and as they are then
abbrev pub Meets : Type 1
Meets = Pass → Pass → Pass → Pass → Type 0

-- one after another: from this state each item gives its answer and leads to the next state, the last one to that
abbrev pub InTurn : {S A B : Type 0} → (S → A → B → S → Type 0) → S → List A → List B → S → Type 0
InTurn step s [] [] s' = s' ≡ s
InTurn step s [] (y ∷ ys) s' = ⊥
InTurn step s (x ∷ xs) [] s' = ⊥
InTurn {S} step s (x ∷ xs) (y ∷ ys) s' = (between : S) × step s x y between × InTurn step between xs ys s'

-- the first pass met every other, in their order
abbrev pub FirstMet : Meets → List Pass → List Pass → Type 0
FirstMet meets [] ps' = ps' ≡ []
FirstMet meets (p ∷ ps) [] = ⊥
FirstMet meets (p ∷ ps) (p' ∷ ps') = InTurn (λ q other other' q'. meets q other q' other') p ps ps' p'

-- it met every other twice: by the first round it learned what they know, and by the second each of them what all do
abbrev pub AllMet : Meets → List Pass → List Pass → Type 0
AllMet meets ps ps' = (between : List Pass) × FirstMet meets ps between × FirstMet meets between ps'

-- the pass of a lane served a call, and the others stayed
pub record ServedIn (serves : Serves) (lane : ℕ) (call : Call) (p : Pass) (ps : List Pass) (r : Option Reply)
    (ps' : List Pass) : Type 0 where
  pub pass : Pass
  pub reply : Reply
  pub served : serves p pass call reply
  pub is : r ≡ Some reply
  pub passes : ps' ≡ set ps lane pass

-- a call in a lane: the lane's pass serves it where that lane is there, and one that is not is an invalid argument
abbrev pub LaneServed : Serves → ℕ → Call → Option Pass → List Pass → Option Reply → List Pass → Type 0
LaneServed serves lane call None ps r ps' = (r ≡ Some (Err (InvalidArgument field.Lane))) × (ps' ≡ ps)
LaneServed serves lane call (Some p) ps r ps' = ServedIn serves lane call p ps r ps'

-- A line by what it asks. At a barrier the first pass meets every other twice, and there is no reply; a call is served in its lane;
-- a line that is refused has its refusal, and the passes stay.
abbrev pub LineServed : Serves → Meets → List Pass → Result Asked Refusal → Option Reply → List Pass → Type 0
LineServed serves meets ps (Ok a_barrier) r ps' = (r ≡ None) × AllMet meets ps ps'
LineServed serves meets ps (Ok (in_a_lane c)) r ps' = LaneServed serves c.lane c.call (slice_get ps c.lane) ps r ps'
LineServed serves meets ps (Err refusal) r ps' = (r ≡ Some (Err refusal)) × (ps' ≡ ps)

-- Lines, by what they ask, are served one after another from these passes on, and have these replies; the passes are those then.
abbrev pub Course : Serves → Meets → List Pass → List (Result Asked Refusal) → List (Option Reply) → List Pass → Type 0
Course serves meets ps lines replies ps' = InTurn (LineServed serves meets) ps lines replies ps'

-- what lines ask
abbrev pub asks_of : Settings → List Line → List (Result Asked Refusal)
asks_of K lines = map (asked K) lines
