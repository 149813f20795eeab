use Rattle.std.proofs.Common.{◌≡◌, ◌∙◌, ap, arith, length}
use Rattle.service_model_types.specs.declared.content.Setup.{Setup}
use Rattle.transfer.specs.Logs.{count_issued}
use Rattle.checkpoint_history.proofs.StoreLemmas.{all-read, read-more}
use Rattle.checkpoint_history.proofs.stores.counts_read.Goals as goal

pub returns : goal.returns
returns g c =
    let all = c.args.store.now.outgoing in
    let shards = ap (λ (s : Setup). s.shards) c.setup.ensures.value in
    let long = c.accepted.ensures.outgoing in
    let ended = c.loop-to-test.false in
    let within = c.loop-to.auto.to-end in
    let count : c.loop-to.to ≡ length all = omega (arith, shards, long, ended, within) in
    let issued = c.from_vec.ensures ∙ all-read (λ w. count_issued w) all c.loop-to.issued.items c.loop-to.to c.loop-to.invariant.issued count in
    let acknowledged = c.from_vec-2.ensures ∙ all-read (λ w. w.counted) all c.loop-to.acknowledged.items c.loop-to.to c.loop-to.invariant.acknowledged count in
    let accepted = c.in_ok-accepted.ensures ∙ c.accepted.ensures.value in
    λ i. record { issued = issued i; acknowledged = acknowledged i; accepted = accepted i }

pub loop-to-preserved : goal.loop-to-preserved
loop-to-preserved g c =
    let all = c.args.store.now.outgoing in record {
      issued = read-more (λ w. count_issued w) all c.loop-to.issued.items c.push.new.self.items c.loop-to.to c.issued_to.result c.loop-to.invariant.issued
          c.issued_to.ensures c.in_ok-push.ensures.items;
      acknowledged = read-more (λ w. w.counted) all c.loop-to.acknowledged.items c.push-in-loop-to.new.self.items c.loop-to.to c.acknowledged_by.result
          c.loop-to.invariant.acknowledged c.acknowledged_by.ensures c.in_ok-push-2.ensures.items;
    }
