-- INNER: the first deadlines of runs
use Rattle.std.specs.Prelude.{◌≡◌, ℕ, ◌+◌, ◌-◌, ◌≤◌, List, [], ◌∷◌, ◌++◌, length, map, option_map, option_to_list, slice_get, slice_index_or, Option, Some, None}
use Rattle.wf_event.specs.declared.event.Event.{Event}
use Rattle.wf_event.specs.declared.attributes.Attributes.TheVariants.{TimerStarted}
use Rattle.wf_event.specs.declared.payloads.TimerStarted.{TimerStarted as TimerFields}
use Rattle.wf_event.specs.declared.role.Class.TheVariants.{Timer}
use Rattle.service_model.specs.Deadlines.{Due, dues, pending_rows}
use Rattle.service_model.specs.RunState.{RunState, ActivityRow, no_run, pending}
use Rattle.service_model.specs.TimerTurns.{RunDue, least}
use Rattle.timeouts.specs.declared.due.Due.{Due as Kept}
use Rattle.timeouts.specs.Slots.{run_due, IsOneOf}

-- deadlines as those of the run with this ordinal
abbrev pub of_run : ℕ → List Due → List RunDue
of_run n ds = map (λ (d : Due). record { run = n; at = d }) ds

-- the first of some deadlines of the run with this ordinal
abbrev pub first_of : ℕ → List Due → Option RunDue
first_of n ds = least (of_run n ds)

-- the first deadline of the run with this ordinal, with a retention
abbrev pub first_due : ℕ → ℕ → RunState → Option RunDue
first_due retention n s = first_of n (dues retention s)

-- the first deadline of each run that has one, where the ordinals count from n
abbrev pub firsts : ℕ → ℕ → List RunState → List RunDue
firsts retention n [] = []
firsts retention n (s ∷ states) = option_to_list (first_due retention n s) ++ firsts retention (n + 1) states

-- the deadline is that of one of the runs, whose ordinals count from 1
pub record IsOfRun (retention : ℕ) (d : RunDue) (states : List RunState) : Type 0 where
  pub from : 1 ≤ d.run
  pub to : d.run ≤ length states
  pub its : IsOneOf d (of_run d.run (dues retention (slice_index_or states (d.run - 1) no_run)))

-- a timer is pending that this event started
pub record HasTimer (s : RunState) (id : ℕ) : Type 0 where
  pub place : ℕ
  pub event : Event
  pub timer : TimerFields
  pub there : slice_get (pending Timer s) place ≡ Some event
  pub named : event.id ≡ id
  pub starts : event.attributes ≡ TimerStarted timer

-- an activity is pending that this event scheduled
pub record HasActivity (s : RunState) (id : ℕ) : Type 0 where
  pub place : ℕ
  pub row : ActivityRow
  pub there : slice_get (pending_rows s) place ≡ Some row
  pub named : row.opened.id ≡ id

-- of each run, where the ordinals count from n, its first deadline is kept at its place
pub record KeepsFirsts (retention n : ℕ) (slots : List (Option Kept)) (states : List RunState) : Type 0 where
  pub count : length slots ≡ length states
  pub first : (k : ℕ) (s : RunState) → slice_get states k ≡ Some s
      → option_map run_due (slice_index_or slots k None) ≡ first_due retention (n + k) s
