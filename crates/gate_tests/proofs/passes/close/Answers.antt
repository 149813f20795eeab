use Rattle.std.proofs.Common.{arith}
use Rattle.gate_tests.proofs.PassLemmas.{stands-at}
use Rattle.gate_tests.proofs.passes.close.Goals as goal

pub close-requires-clause-own : goal.close-requires-clause-own
close-requires-clause-own g c = λ k p there. (c.requires.own k p there).0

pub close-requires-clause-all : goal.close-requires-clause-all
close-requires-clause-all g c = λ n below.
    let count = c.requires.count in
    let (p, there) = stands-at c.args.passes.items n (omega arith) in
    (n, p, there, (c.requires.own n p there).1)
