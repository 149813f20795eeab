use Rattle.std.proofs.Common.{refl}
use Rattle.clap.specs.Words.{found_of}
use Rattle.clap.proofs.WalkLemmas.{first_value-rows}
use Rattle.script_settings.proofs.words.number.Goals as goal

pub returns-in_default-clause-set : goal.returns-in_default-clause-set
returns-in_default-clause-set c = rw (← first_value-rows (found_of c.args.matches.now) c.args.name.now, ← c.in_default.ensures) refl

pub returns-in-Ok-clause-set : goal.returns-in-Ok-clause-set
returns-in-Ok-clause-set c = rw (← first_value-rows (found_of c.args.matches.now) c.args.name.now, ← c.in-Some.ensures) c.in-Ok.ensures.value.0

pub returns-in-Err-clause-fault : goal.returns-in-Err-clause-fault
returns-in-Err-clause-fault c = (refl, rw (← first_value-rows (found_of c.args.matches.now) c.args.name.now, ← c.in-Some.ensures) c.in-Err.ensures.value.0)
