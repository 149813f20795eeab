use Rattle.std.proofs.lemmas.Result.{err_from_is_err_and}
use Rattle.std.proofs.Common.{refl, ◌∙◌, ap, string_bytes, subst, sym}
use Rattle.shard_snapshot.specs.declared.damage.Damage.TheVariants.{Count}
use Rattle.shard_snapshot.specs.Laid.{laid_first}
use Rattle.shard_snapshot.specs.Written.{IsWritten}
use Rattle.shard_snapshot.proofs.PieceLemmas.{first-err}
use Rattle.shard_snapshot.proofs.WrittenLemmas.{of-memory, written-first}
use Rattle.shard_snapshot.proofs.writing.Writing.start.Goals as goal

pub invariant_of-result : goal.invariant_of-result
invariant_of-result g c = λ whole.
    let (l, is, laid) = c.in-Ok.ensures.ok in
    subst (λ s. IsWritten s (string_bytes c.in_ok-text.text) 2 c.in-Ok.shard) (sym c.in_ok-copy_of-in-Ok.ensures)
    (written-first c.args.setup.now c.args.counted _ l c.in-Ok.shard c.in_ok-text.ensures (ap (λ s. laid_first s c.args.counted) (sym c.in_ok-copy_of.ensures) ∙ is) laid)

pub returns-then-not-has_counts-clause-err : goal.returns-then-not-has_counts-clause-err
returns-then-not-has_counts-clause-err g c = (Count, refl, λ other. first-err c.args.setup.now c.args.counted (sym c.if-not-has_counts.ensures))

pub returns-in_err-text-clause-err : goal.returns-in_err-text-clause-err
returns-in_err-text-clause-err g c =
    let p = err_from_is_err_and c.from_residual.result c.from_residual.ensures.1 in
    rw (p.1, p.2) (of-memory 1 _)

pub returns-in_err-copy_of-clause-err : goal.returns-in_err-copy_of-clause-err
returns-in_err-copy_of-clause-err g c =
    let p = err_from_is_err_and c.from_residual-in_err-copy_of.result c.from_residual-in_err-copy_of.ensures.1 in
    rw (p.1, p.2) (of-memory 1 _)

pub returns-in_err-copy_of-in-Ok-clause-err : goal.returns-in_err-copy_of-in-Ok-clause-err
returns-in_err-copy_of-in-Ok-clause-err g c =
    let p = err_from_is_err_and c.from_residual-in_err-copy_of-in-Ok.result c.from_residual-in_err-copy_of-in-Ok.ensures.1 in
    rw (p.1, p.2) (of-memory 1 _)
