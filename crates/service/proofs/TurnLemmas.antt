-- which shard a dispatch names that a service reads, and what a turn comes to
use Rattle.std.proofs.Common.{◌≡◌, ◌≢◌, ℕ, ◌<◌, Bool, true, false, List, [], ◌∷◌, sym, ap, ◌∙◌, subst, arith, refl, Option, Some, None}
use Rattle.std.proofs.lemmas.Bool.Decides.{nat_tests}
use Rattle.std.specs.Prelude.{nat_lt, if◌then◌else◌, Ok, Err}
use Rattle.wf_event_values.specs.declared.field.Field.TheVariants as field
use Rattle.wf_event_values.specs.declared.policies.TaskKind.{TaskKind}
use Rattle.wf_event_values.specs.declared.refusal.Refusal.{Refusal}
use Rattle.wf_event_values.specs.declared.refusal.Refusal.TheVariants.{InvalidArgument}
use Rattle.service_model_types.specs.declared.call.Stop.{Stop}
use Rattle.service_model_types.specs.declared.call.Stop.TheVariants.{AtEnd, AfterFirstPart, AfterSecondPart}
use Rattle.service_model_types.specs.declared.answer.NumberedDispatch.{NumberedDispatch}
use Rattle.service_model_types.specs.declared.content.Content.{Content}
use Rattle.service_model_types.specs.declared.request.Hint.{Hint}
use Rattle.service_model_types.specs.declared.request.Request.{Request}
use Rattle.service_model_types.specs.Replies.{dispatch_of, Reply}
use Rattle.service_model_types.specs.declared.content.Setup.{Setup}
use Rattle.service_model.specs.Service.{Entry, after}
use Rattle.service_model.proofs.DispatchLemmas.{NamesShard, names-after, next-named}
use Rattle.gate.specs.declared.view.View.{View}
use Rattle.gate.specs.Records.{replay}
use Rattle.service.specs.ServiceViews.{Service}
use Rattle.matching.specs.declared.view.View.{View as HintView}
use Rattle.matching.specs.Named.{Pops, Pushes, capacity_of}
use Rattle.service.specs.CallRequests.{to_next_dispatch, to_start_task}
use Rattle.service.specs.Headline.{content_of}
use Rattle.service.specs.Services.{Answered, IsOpened, IsServedAtLast}
use Rattle.service.specs.Starting.{start_of}
use Rattle.service.proofs.StartLemmas.{start-is-fit}
use Rattle.service.specs.Turns.{AfterDispatch, AfterNext, AnsweredOn, Polls, Turns, place_of}

names-replayed : (shard : ℕ) (S : Content) (R : List Entry) → NamesShard shard S → NamesShard shard (replay after S R)
names-replayed shard S [] h = h
names-replayed shard S (e ∷ R) h = names-replayed shard (after S e.request) R (names-after shard S e.request h)

-- the dispatch that the next one of a shard is names that shard, so one that is there
pub next-below : (x : Service) → IsOpened x → (shard at : ℕ) (v w : View Request Content) (r : Reply) → AnsweredOn x shard v w (to_next_dispatch at) r → (d : NumberedDispatch) → dispatch_of r ≡ Some d → d.dispatch.hint.shard < x.settings.shards
next-below x opened shard at v w r done d is = by_test (nat_lt shard x.settings.shards) refl done
  where
    served : nat_lt shard x.settings.shards ≡ true → IsServedAtLast x v w shard (to_next_dispatch at) r → d.dispatch.hint.shard < x.settings.shards
    served below h =
        let front = h.served.step.front in
        let start = start-is-fit x opened shard in
        let names : NamesShard shard (start_of x shard) = record { own = ap (λ (u : Setup). u.shard) start.setup; all = start.dispatches } in
        let named : d.dispatch.hint.shard ≡ shard = next-named shard (content_of x shard front) at d (names-replayed shard (start_of x shard) front names) (ap dispatch_of (sym h.served.answered.reply) ∙ is) in
        grind (arith, nat_tests)

    by_test : (b : Bool) → nat_lt shard x.settings.shards ≡ b → Answered (if b then None else Some (InvalidArgument field.Shard)) (IsServedAtLast x v w shard (to_next_dispatch at) r) v w r → d.dispatch.hint.shard < x.settings.shards
    by_test true below h = served below h
    by_test false below h = absurd (let clash = sym (ap dispatch_of h.0) ∙ is in cc)

-- a hint was popped, and its task asked for
pub polled : (x : Service) (o : Option ℕ) (kind : TaskKind) (at : ℕ) (v w : View Request Content) (hs ws : List HintView) (h : Hint) (r : Reply) → Pops o kind hs ws (Ok (Some h)) → IsServedAtLast x v w h.shard (to_start_task at h) r → Polls x o kind at v w hs ws (Some r)
polled x None kind at v w hs ws h r popped served = absurd (let clash = popped.0 in cc)
polled x (Some place) kind at v w hs ws h r popped served = (h, popped, served)

-- a dispatch was read, and its hint was not pushed
pub not-pushed : (x : Service) (shard at : ℕ) (stop : Stop) (d : NumberedDispatch) (v w : View Request Content) (hs ws : List HintView) (next : Reply) (e : Refusal) → AnsweredOn x shard v w (to_next_dispatch at) next → dispatch_of next ≡ Some d → stop ≢ AfterFirstPart → Pushes (place_of x d.dispatch.queue) (capacity_of x.queues) hs ws d.dispatch.hint (Err e) → Turns x shard at stop v w hs ws (Err e)
not-pushed x shard at stop d v w hs ws next e step found apart push = record {
  next = next;
  met = w;
  step = step;
  rest = subst (λ o. AfterNext x shard at stop next o w w hs ws (Err e)) (sym found) (by_stop stop apart);
}
  where
    by_stop : (s : Stop) → s ≢ AfterFirstPart → AfterDispatch x shard at s d w w hs ws (Err e)
    by_stop AtEnd apart = record { pushed = Err e; push = push; rest = (refl, refl) }
    by_stop AfterFirstPart apart = absurd (apart refl)
    by_stop AfterSecondPart apart = record { pushed = Err e; push = push; rest = (refl, refl) }
