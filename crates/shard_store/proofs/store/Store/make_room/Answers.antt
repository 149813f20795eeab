use Rattle.std.proofs.Common.{◌≡◌, ◌<◌, ◌∙◌, ℕ, List, length, length-set, ap, arith, slice_set, subst, sym}
use Rattle.std.proofs.lemmas.List.{get_or-set_same}
use Rattle.std.specs.Prelude.{Result, Ok, Err, IfOk, OnOk}
use Rattle.service_model.specs.RunState.{is_there}
use Rattle.mutable_state.specs.RunView.{HasRoomFor, RunView}
use Rattle.mutable_state.specs.declared.change.StepFacts.{StepFacts}
use Rattle.mutable_state.specs.declared.change.PlannedFacts.{PlannedFacts}
use Rattle.shard_issued.specs.Issuing.{all_waiting}
use Rattle.shard_issued.specs.Sending.{all_outgoing}
use Rattle.shard_issued.proofs.EachLemmas.{each-same}
use Rattle.shard_store.specs.Fitting.{view_at}
use Rattle.shard_store.specs.Places.{empty_place}
use Rattle.shard_store.specs.ShardView.{ShardView}
use Rattle.shard_store.proofs.PlaceLemmas.{there-full}
use Rattle.shard_store.proofs.IndexLemmas.{run-at, run-within, states-same, indexed-same}
use Rattle.shard_store.proofs.store.Store.make_room.Goals as goal

pub invariant_of-self : goal.invariant_of-self
invariant_of-self g c =
    let there : c.args.index < length c.self.inside.runs.items = run-within c.args.self.now c.self.inside.runs.items c.args.index (ap (λ v. v.runs) c.self.view_is ∙ c.in_ok-catch_up.ensures.runs) c.requires in
    let was = c.place_mut-place.ensures.value in (
      c.self.invariant.0,
      indexed-same _ c.self.inside.runs.items c.args.index _ c.prepare.new.self there was (c.prepare.ensures.same ∙ ap (λ (v : RunView). v.state) c.get_mut-run.ensures.value) c.self.invariant.1,
      rw length-set c.self.invariant.2,
      each-same _ _ _ _ (states-same c.self.inside.runs.items c.args.index _ c.prepare.new.self there was (c.prepare.ensures.same ∙ ap (λ (v : RunView). v.state) c.get_mut-run.ensures.value)) c.self.invariant.3,
      each-same _ _ _ _ (states-same c.self.inside.runs.items c.args.index _ c.prepare.new.self there was (c.prepare.ensures.same ∙ ap (λ (v : RunView). v.state) c.get_mut-run.ensures.value)) c.self.invariant.4,
      rw length-set c.self.invariant.5,
    )

pub returns-clause-same : goal.returns-clause-same
returns-clause-same g c =
    let there : c.args.index < length c.self.inside.runs.items = run-within c.args.self.now c.self.inside.runs.items c.args.index (ap (λ v. v.runs) c.self.view_is ∙ c.in_ok-catch_up.ensures.runs) c.requires in
    rw (← c.in_ok-catch_up.ensures.same, ← c.self.view_is) (ap (λ t. record { setup = c.self.inside.setup; runs = t; last = c.self.inside.last; waiting = all_waiting c.self.inside.setup c.self.inside.dispatches c.self.inside.changed t; outgoing = all_outgoing c.self.inside.setup c.self.inside.transfers t; accepted = c.self.inside.transfers.accepted }) (states-same c.self.inside.runs.items c.args.index _ c.prepare.new.self there c.place_mut-place.ensures.value (c.prepare.ensures.same ∙ ap (λ (v : RunView). v.state) c.get_mut-run.ensures.value)))

pub returns-in_err-catch_up-clause-there : goal.returns-in_err-catch_up-clause-there
returns-in_err-catch_up-clause-there g c = run-within c.args.self.now c.catch_up.new.self.runs c.args.index c.in_err-catch_up.ensures.runs c.requires

pub place_mut-place-requires : goal.place_mut-place-requires
place_mut-place-requires g c =
    let runs = c.self.inside.runs.items in
    let is = ap (λ (v : ShardView). v.runs) c.self.view_is ∙ c.in_ok-catch_up.ensures.runs in
    there-full _ (ap is_there (run-at c.args.self.now runs c.args.index empty_place is (run-within c.args.self.now runs c.args.index is c.requires)) ∙ c.requires)

pub returns-clause-there : goal.returns-clause-there
returns-clause-there g c =
    let low = run-within c.args.self.now c.self.inside.runs.items c.args.index (ap (λ (v : ShardView). v.runs) c.self.view_is ∙ c.in_ok-catch_up.ensures.runs) c.requires in
    omega (arith, low, length-set c.self.inside.runs.items c.args.index c.prepare.new.self)

-- the room at a place where this run was put
room-set : {E : Type 0} (result : Result PlannedFacts E) (runs : List RunView) (i : ℕ) (x : RunView) (more : StepFacts) → i < length runs → IfOk result (λ plan. plan.change ≡ more) → OnOk result (HasRoomFor x more.facts)
    → IfOk result (λ plan. HasRoomFor (view_at (slice_set runs i x) i) plan.change.facts)
room-set (Ok plan) runs i x more low made room =
    subst (λ (v : RunView). HasRoomFor v plan.change.facts) (sym (get_or-set_same runs i x empty_place low)) (subst (λ (c : StepFacts). HasRoomFor x c.facts) (sym made) room)
room-set (Err e) runs i x more low made room = tt

pub returns-clause-room : goal.returns-clause-room
returns-clause-room g c =
    let low = run-within c.args.self.now c.self.inside.runs.items c.args.index (ap (λ (v : ShardView). v.runs) c.self.view_is ∙ c.in_ok-catch_up.ensures.runs) c.requires in
    room-set c.prepare.result c.self.inside.runs.items c.args.index c.prepare.new.self c.args.more low c.prepare.ensures.made c.prepare.ensures.room
