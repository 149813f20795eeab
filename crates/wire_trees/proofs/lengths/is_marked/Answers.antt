use Rattle.std.proofs.Common.{◌==◌, ap}
use Rattle.std.proofs.lemmas.Nat.Bits.{shr_and_one}
use Rattle.wire_trees.specs.Borrowed.{is_marked}
use Rattle.wire_trees.proofs.lengths.is_marked.Goals as goal

pub returns : goal.returns
unfolding is_marked
returns c = ap (λ x. x == 1) (shr_and_one c.args.lengths _)
