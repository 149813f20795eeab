use Rattle.std.proofs.Common.{◌≤◌, ◌*◌, arith}
use Rattle.retry.proofs.WaitLemmas.{in_range, product_small}
use Rattle.retry.proofs.waits.next_wait.Goals as goal

pub overflow_mul-wait : goal.overflow_mul-wait
overflow_mul-wait c =
    let range = in_range c.args.fields.now c.requires.good in
    let small : c.args.wait * c.args.fields.now.coefficient ≤ 100000000000000000 = product_small _ _ c.args.maximum c.requires.within (omega (arith, range.longest, c.requires.maximum)) range.coefficient_most in
    omega arith
