-- MEANING: The exit status of the program.
use Rattle.std.specs.Prelude.{ℕ, Bool, Result, Ok, Err, if◌then◌else◌}
use Rattle.script.specs.Status as script
use Rattle.wfserve_run.specs.declared.fault.Fault.{Fault}
use Rattle.wfserve_run.specs.declared.served.Served.{Served}
use Rattle.wfserve_run.specs.declared.served.Served.TheVariants.{Script, Journaled, Version}
use Rattle.wfserve_run.specs.declared.served.WithJournal.{WithJournal}
use Rattle.wfserve_run.specs.declared.served.WithJournal.TheVariants.{OnePass, InLanes, AfterCheckpoint}

-- whether a reply was a refusal
abbrev pub is_refused : {Object Plan : Type 0} → WithJournal Object Plan → Bool
is_refused (OnePass j) = j.refused
is_refused (InLanes j) = j.refused
is_refused (AfterCheckpoint refused) = refused

-- 0, or 1 where a reply was a refusal
abbrev pub served_status : {Keeper Plan : Type 0} → Served Keeper Plan → ℕ
served_status (Script o) = script.status_of o
served_status (Journaled j) = if is_refused j then 1 else 0
served_status Version = 0

-- that of what was served, or 2 for a fault
abbrev pub status_of : {Keeper Plan : Type 0} → Result (Served Keeper Plan) Fault → ℕ
status_of (Ok s) = served_status s
status_of (Err _) = 2
