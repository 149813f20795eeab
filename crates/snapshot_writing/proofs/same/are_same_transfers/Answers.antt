use Rattle.std.proofs.Common.{◌≡◌, ◌<◌, ◌∙◌, ap, arith, sym, length}
use Rattle.std.proofs.lemmas.Bool.Decides.{nat_tests}
use Rattle.std.proofs.lemmas.List.{ext_get_or}
use Rattle.std.proofs.lemmas.Option.{unwrap_or-slice_get}
use Rattle.service_model_types.specs.declared.content.Setup.{Setup}
use Rattle.transfer.specs.Logs.{none_waits}
use Rattle.snapshot_writing.proofs.same.are_same_transfers.Goals as goal

pub returns : goal.returns
returns g c =
    let ours = c.args.one.now.outgoing in
    let theirs = c.args.other.now.outgoing in
    let mine = c.accepted-ours.ensures.outgoing in
    let other = c.accepted-theirs.ensures.outgoing in
    let shards = c.requires.shards in
    let count : length ours ≡ length theirs = mine ∙ shards ∙ sym other in
    let all = ap (λ (s : Setup). s.shards) c.setup.ensures.value in
    let test = c.loop-to-test.false in
    λ same. ext_get_or none_waits ours theirs count (λ k less.
    let within : k < c.loop-to.to = grind (arith, nat_tests) in
    sym (unwrap_or-slice_get ours k none_waits) ∙ c.loop-to.invariant k within ∙ unwrap_or-slice_get theirs k none_waits)
