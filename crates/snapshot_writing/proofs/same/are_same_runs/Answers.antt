use Rattle.std.proofs.Common.{◌≡◌, ◌<◌, ◌+◌, ◌-◌, ◌∙◌, ap, arith, sym, length, slice_index_or}
use Rattle.std.proofs.lemmas.Bool.Decides.{nat_tests}
use Rattle.std.proofs.lemmas.List.{ext_get_or, length-map}
use Rattle.service_model.specs.RunState.{no_run}
use Rattle.mutable_state.specs.RunView.{RunView}
use Rattle.shard_store.specs.ShardView.{states}
use Rattle.snapshot_writing.proofs.same.are_same_runs.Goals as goal

pub returns : goal.returns
returns g c =
    let ours = c.args.one.now.runs in
    let theirs = c.args.other.now.runs in
    let mine = c.count.ensures.count in
    let other = c.count-2.ensures.count in
    let all = c.count-index-end.ensures.count in
    let equal = c.if-count.false in
    let test = c.loop-index-test.false in
    let long = length-map ours (λ (r : RunView). r.state) in
    let long' = length-map theirs (λ (r : RunView). r.state) in
    let count : length (states ours) ≡ length (states theirs) = grind (arith, nat_tests) in
    λ same. ext_get_or no_run (states ours) (states theirs) count (λ k less.
    let within : k < c.loop-index.index = grind (arith, nat_tests) in
    let place : (k + 1) - 1 ≡ k = omega arith in
    sym (ap (λ j. slice_index_or (states ours) j no_run) place) ∙ c.loop-index.invariant k within ∙ ap (λ j. slice_index_or (states theirs) j no_run) place)
