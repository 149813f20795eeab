use Rattle.std.proofs.Common.{codes, sym, ◌∙◌, map}
use Rattle.clap.specs.Words.{found_of, rows_of}
use Rattle.clap.proofs.WalkLemmas.{first_value-rows}
use Rattle.script_settings.specs.Queues.{IsCutAtCommas}
use Rattle.script_settings.proofs.CutLemmas.{other_parts}
use Rattle.script_settings.proofs.queues.queues.Goals as goal

pub returns-in-Ok-clause-set : goal.returns-in-Ok-clause-set
returns-in-Ok-clause-set c = rw (← first_value-rows (found_of c.args.matches.now) (codes "queues"), ← c.in_default.ensures) c.in-Ok.ensures

pub returns-in-Err-clause-fault : goal.returns-in-Err-clause-fault
returns-in-Err-clause-fault c = c.memory.ensures (rows_of (found_of c.args.matches.now))

pub returns-in-Err-parts_of-clause-fault : goal.returns-in-Err-parts_of-clause-fault
returns-in-Err-parts_of-clause-fault c = c.memory-in-Err-parts_of.ensures (rows_of (found_of c.args.matches.now))

pub returns-in-Ok-names_of-clause-set : goal.returns-in-Ok-names_of-clause-set
returns-in-Ok-names_of-clause-set c =
    rw (← first_value-rows (found_of c.args.matches.now) (codes "queues"), ← c.in-Some.ensures)
    (rw (c.in-Ok-names_of.ensures.names, c.deref.ensures.value) c.in-Ok-parts_of.ensures)

pub returns-in-Err-InvalidArgument-clause-fault : goal.returns-in-Err-InvalidArgument-clause-fault
returns-in-Err-InvalidArgument-clause-fault c =
    let cut : IsCutAtCommas c.in-Some.text.now (map (λ x. x.now) c.deref.result.now) = rw (c.deref.ensures.value) c.in-Ok-parts_of.ensures in
    rw (← first_value-rows (found_of c.args.matches.now) (codes "queues"), ← c.in-Some.ensures)
    (other_parts c.in-Some.text.now c.deref.result.now cut (c.in-Err-InvalidArgument.ensures.other (λ e. let clash = sym c.in-Err-InvalidArgument.field-0-is ∙ e in cc)))

pub returns-clause-fault : goal.returns-clause-fault
returns-clause-fault c = c.memory-in-Err-names_of.ensures (rows_of (found_of c.args.matches.now))
