use Rattle.std.proofs.Common.{◌<◌, ◌∙◌, length, length-set, ap, sym}
use Rattle.service_model.specs.RunState.{RunState}
use Rattle.mutable_state.specs.RunView.{RunView}
use Rattle.shard_issued.specs.Issuing.{all_waiting}
use Rattle.shard_issued.specs.Sending.{all_outgoing}
use Rattle.shard_issued.proofs.EachLemmas.{each-same}
use Rattle.shard_store.specs.Fitting.{state_at}
use Rattle.shard_store.specs.Places.{empty_place}
use Rattle.shard_store.specs.ShardView.{ShardView, states}
use Rattle.shard_store.proofs.PlaceLemmas.{started-full}
use Rattle.shard_store.proofs.IndexLemmas.{states-at, states-same, indexed-same}
use Rattle.shard_store.proofs.store.Store.fail_in.Goals as goal

pub invariant_of-self : goal.invariant_of-self
invariant_of-self g c =
    let there : c.args.index < length c.self.inside.runs.items = rw (ap (λ v. v.runs) c.self.view_is ∙ c.in_ok-catch_up.ensures.runs) c.requires.there in
    let was = c.place_mut-place.ensures.value in (
      c.self.invariant.0,
      indexed-same _ c.self.inside.runs.items c.args.index _ c.plan_failure.new.run there was (c.plan_failure.ensures.same ∙ ap (λ (v : RunView). v.state) c.get_mut-run.ensures.value) c.self.invariant.1,
      rw length-set c.self.invariant.2,
      each-same _ _ _ _ (states-same c.self.inside.runs.items c.args.index _ c.plan_failure.new.run there was (c.plan_failure.ensures.same ∙ ap (λ (v : RunView). v.state) c.get_mut-run.ensures.value)) c.self.invariant.3,
      each-same _ _ _ _ (states-same c.self.inside.runs.items c.args.index _ c.plan_failure.new.run there was (c.plan_failure.ensures.same ∙ ap (λ (v : RunView). v.state) c.get_mut-run.ensures.value)) c.self.invariant.4,
      rw length-set c.self.invariant.5,
    )

pub returns-clause-same : goal.returns-clause-same
returns-clause-same g c =
    let there : c.args.index < length c.self.inside.runs.items = rw (ap (λ v. v.runs) c.self.view_is ∙ c.in_ok-catch_up.ensures.runs) c.requires.there in
    rw (← c.in_ok-catch_up.ensures.same, ← c.self.view_is) (ap (λ t. record { setup = c.self.inside.setup; runs = t; last = c.self.inside.last; waiting = all_waiting c.self.inside.setup c.self.inside.dispatches c.self.inside.changed t; outgoing = all_outgoing c.self.inside.setup c.self.inside.transfers t; accepted = c.self.inside.transfers.accepted }) (states-same c.self.inside.runs.items c.args.index _ c.plan_failure.new.run there c.place_mut-place.ensures.value (c.plan_failure.ensures.same ∙ ap (λ (v : RunView). v.state) c.get_mut-run.ensures.value)))

pub place_mut-place-requires : goal.place_mut-place-requires
place_mut-place-requires g c =
    let runs = c.self.inside.runs.items in
    let i = c.args.index in
    let is = ap (λ (v : ShardView). v.runs) c.self.view_is ∙ c.in_ok-catch_up.ensures.runs in
    let low : i < length runs = rw is c.requires.there in
    started-full _ (ap (λ (s : RunState). s.task) (sym (states-at runs i empty_place low) ∙ ap (λ l. state_at (states l) i) is) ∙ c.requires.started)
