use Rattle.std.proofs.Common.{◌≡◌, ◌<◌, arith, length}
use Rattle.std.proofs.lemmas.Bool.Decides.{nat_tests}
use Rattle.snapshot_writing.proofs.SameLemmas.{as-long}
use Rattle.snapshot_writing.proofs.same_runs.are_held_same.Goals as goal

pub returns : goal.returns
returns c =
    let ours = c.args.one.now.lists.held in
    let theirs = c.args.other.now.lists.held in
    let mine = c.len.ensures in
    let other = c.len-2.ensures in
    let all = c.len-index-end.ensures in
    let equal = c.if-len.false in
    let test = c.loop-index-test.false in
    let held = c.held-ours.ensures in
    let held' = c.held-theirs.ensures in
    let count : length ours ≡ length theirs = grind (arith, nat_tests) in
    λ same. as-long ours theirs count (λ k less. let within : k < c.loop-index.index = grind (arith, nat_tests) in c.loop-index.invariant k within)
