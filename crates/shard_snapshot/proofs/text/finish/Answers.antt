use Rattle.std.proofs.Common.{◌∙◌, ap, refl, Ok}
use Rattle.shard_snapshot.specs.declared.damage.Damage.TheVariants as damage
use Rattle.shard_snapshot.specs.Laid.{on_ok}
use Rattle.shard_snapshot.specs.Stages.{IsRestored}
use Rattle.shard_snapshot.proofs.PieceLemmas.{alike, differ}
use Rattle.shard_snapshot.proofs.StageLemmas.{end-lines, end-next}
use Rattle.shard_snapshot.proofs.text.finish.Goals as goal

pub returns-then-end-count : goal.returns-then-end-count
returns-then-end-count g c = λ setup l h. (damage.Lines, refl, λ other. end-lines setup c.args.count l c.args.end.now (differ c.args.end.now.lines c.args.count c.if-end-count.true))

pub returns-in-Ok : goal.returns-in-Ok
returns-in-Ok g c = λ setup l h.
    let (S, is, stands) = c.in-Ok.ensures.ok l h in
    (S, end-next setup c.args.count l c.args.end.now (alike c.args.end.now.lines c.args.count c.if-end-count.false) ∙ ap (λ r. on_ok r (λ S. Ok (IsRestored S))) is, stands)

pub returns-in-Err : goal.returns-in-Err
returns-in-Err g c = λ setup l h.
    (c.in-Err.damage, c.fault_of.ensures, λ other. end-next setup c.args.count l c.args.end.now (alike c.args.end.now.lines c.args.count c.if-end-count.false) ∙ ap (λ r. on_ok r (λ S. Ok (IsRestored S))) (c.in-Err.ensures.err l h other))
