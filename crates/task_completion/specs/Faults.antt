-- PROOF: what calls that judge commands say: what is defined, unless memory ran out
use Rattle.std.specs.Prelude.{◌≡◌, Result, Ok, Err, MatchResult}
use Rattle.wf_event_values.specs.declared.policies.Cause.{Cause}
use Rattle.task_completion.specs.declared.fault.Fault.{Fault}
use Rattle.task_completion.specs.declared.fault.Fault.TheVariants.{Faulty, NoMemory}
use Rattle.task_completion.specs.Judging.{Kept, After}

-- a fault of commands is the one that is given; that memory ran out says nothing
abbrev pub IsFault : {A : Type 0} → Result A Cause → Fault → Type 0
IsFault given (Faulty cause) = given ≡ Err cause
IsFault given NoMemory = Unit {0}

-- what a call answered, and what it left, is what is given after one more command
abbrev pub Judges : Result (Unit {0}) Fault → Kept → After → Type 0
Judges result k given = MatchResult result (λ u. given ≡ Ok k) (IsFault given)
