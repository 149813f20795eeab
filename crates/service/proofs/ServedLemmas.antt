-- a step of the gate is one of the service
use Rattle.std.proofs.Common.{◌≡◌, ℕ, ◌<◌, ◌≤◌, Bool, true, false, List, refl, sym, ap, subst, ◌∙◌, arith, Option, Some, None, IfOk, IfErr, Ok, Err}
use Rattle.std.proofs.lemmas.Bool.Decides.{nat_tests}
use Rattle.std.proofs.lemmas.Nat.{mod_below}
use Rattle.std.specs.Prelude.{length, slice_get, if◌then◌else◌, nat_lt, ◌&&◌, Result}
use Rattle.std.specs.Option.{option_or}
use Rattle.wf_event_values.specs.declared.field.Field.TheVariants as field
use Rattle.wf_event_values.specs.declared.refusal.Refusal.{Refusal}
use Rattle.wf_event_values.specs.declared.refusal.Refusal.TheVariants.{InvalidArgument}
use Rattle.service_model_types.specs.declared.call.StepCall.{StepCall}
use Rattle.service_model_types.specs.declared.call.StepCall.TheVariants as call
use Rattle.service_model_types.specs.declared.content.Content.{Content}
use Rattle.service_model_types.specs.declared.request.Operation.{Operation}
use Rattle.service_model_types.specs.declared.request.Operation.TheVariants as operation
use Rattle.service_model_types.specs.declared.request.Operation.TheVariants.{Deliver}
use Rattle.service_model_types.specs.declared.transfer.Transfer.{Transfer}
use Rattle.service_model_types.specs.declared.request.Request.{Request}
use Rattle.service_model_types.specs.declared.request.TakenTask.{TakenTask}
use Rattle.service_model_types.specs.declared.settings.Settings.{Settings}
use Rattle.service_model.specs.Deliveries.{accepted_from}
use Rattle.service_model.specs.Grounds.{Grounds}
use Rattle.service_model.specs.Growth.{KeepsHistories}
use Rattle.service_model_types.specs.Clients.{is_clients}
use Rattle.service_model_types.specs.Replies.{Reply}
use Rattle.service_model_types.specs.Homes.{Home, Workflow, Token, Part, home}
use Rattle.service_model_types.specs.Routing.{hash_of}
use Rattle.service_model.specs.Service.{Entry, answer, answer_to, after, after_asking, opening}
use Rattle.service_model.specs.TransferLaws.{DeliversOnce, delivers}
use Rattle.gate.specs.declared.object.Refused.{Refused}
use Rattle.gate.specs.declared.view.View.{View}
use Rattle.gate.specs.Passes as gate
use Rattle.gate.specs.SlotRule as rule
use Rattle.gate.specs.Records.{Begins, past, replay}
use Rattle.shard_gate.specs.GateViews as gates
use Rattle.service.specs.ServiceViews.{Service}
use Rattle.service.specs.ServiceViews.{Pass}
use Rattle.service.specs.Contents.{setup_of, commands_refusal, ends_refusal, home_refusal, is_token, refusal_of, refusal_of_step, shard_at, shard_of, shard_refusal, slot_of_step}
use Rattle.service.specs.Headline.{IsSequential, content_of}
use Rattle.service.specs.Starting.{start_of}
use Rattle.service.proofs.OnceLemmas.{delivered-once}
use Rattle.service.proofs.StartLemmas.{counts-all, found-at, start-is-fit}
use Rattle.service.specs.Services.{known_by, IsOpened, IsPassOf, IsServedAtLast, IsServedOn, IsServedOnBy, IsTriedOn}

-- nothing refuses, so the test holds
unrefused : (b : Bool) (rest : Option Refusal) (e : Refusal) → ◌≡◌ {A = Option Refusal} (if b then rest else Some e) None → b ≡ true
unrefused true rest e none = refl
unrefused false rest e none = absurd (cc)

first-none : (one other : Option Refusal) → option_or one other ≡ None → one ≡ None
first-none None other none = refl
first-none (Some e) other none = absurd (cc)

first-test : (a b : Bool) → (a && b) ≡ true → a ≡ true
first-test true b h = refl
first-test false b h = absurd (cc)

token-below : (K : Settings) (t : TakenTask) → is_token K t ≡ true → t.shard < K.shards
token-below K t h = let there : nat_lt t.shard K.shards ≡ true = first-test _ _ h in grind (arith, nat_tests)

-- the shard of an operation that nothing refuses is there
home-below : (K : Settings) (h : Home) (rest : Option Refusal) → 1 ≤ K.shards → option_or (home_refusal K h) rest ≡ None → shard_at K h < K.shards
home-below K (Workflow id) rest some none = mod_below (hash_of id) K.shards (omega (arith, some))
home-below K (Token t) rest some none = token-below K t (unrefused _ _ _ (first-none _ rest none))
home-below K Part rest some none = absurd (cc)

shard-below : (K : Settings) (o : Operation) → 1 ≤ K.shards → refusal_of K o ≡ None → shard_of K o < K.shards
shard-below K o some none = home-below K (home o) (commands_refusal o) some none

-- a shard that nothing refuses is there
pub named-below : (K : Settings) (shard : ℕ) → shard_refusal K shard ≡ None → shard < K.shards
named-below K shard none = let there : nat_lt shard K.shards ≡ true = unrefused _ _ _ none in grind (arith, nat_tests)

-- so are those that a transfer turn names
pub ends-below : (K : Settings) (from to : ℕ) → ends_refusal K from to ≡ None → (from < K.shards) × (to < K.shards)
ends-below K from to none = by_tests (nat_lt from K.shards) refl (nat_lt to K.shards) refl none
  where
    by_tests : (a : Bool) → nat_lt from K.shards ≡ a → (b : Bool) → nat_lt to K.shards ≡ b → ◌≡◌ {A = Option Refusal} (if a then (if b then None else Some (InvalidArgument field.To)) else Some (InvalidArgument field.From)) None → (from < K.shards) × (to < K.shards)
    by_tests true a true b none = (grind (arith, nat_tests), grind (arith, nat_tests))
    by_tests true a false b none = absurd (cc)
    by_tests false a b is none = absurd (cc)

-- so is the shard of a call
pub call-below : (K : Settings) (c : StepCall) → 1 ≤ K.shards → refusal_of_step K c ≡ None → slot_of_step K c < K.shards
call-below K (call.Request q) some none = shard-below K q.operation some none
call-below K (call.StartTask c) some none = named-below K c.hint.shard none
call-below K (call.TimerTurn t) some none = named-below K t.shard none

-- the content that a pass knows a shard to have started at
start-is : (p : Pass) (x : Service) (shard : ℕ) (start : Content) → IsPassOf p x → slice_get (gate.starts (known_by p)) shard ≡ Some start → start ≡ start_of x shard
start-is p x shard start own is =
    found-at x.gate.origin.starts shard (opening (setup_of x.settings shard)) start (ap (λ o. slice_get o.starts shard) (sym own.own.1) ∙ is)

-- what is delivered after a record takes effect once at most
delivers-once : (x : Service) → IsOpened x → (shard : ℕ) (front : List Entry) (at : ℕ) (t : Transfer) → DeliversOnce (content_of x shard front) at t
delivers-once x opened shard front at t =
    delivered-once (content_of x shard front) at t (counts-all x.settings shard (start_of x shard) front (start-is-fit x opened shard))

-- a request is what it asks, at its moment
answer-asked : (S : Content) (q : Request) (t : Transfer) → q.operation ≡ Deliver t → answer S q ≡ answer S (delivers q.at t)
unfolding answer
answer-asked S q t is = ap (answer_to S q.at) is

after-asked : (S : Content) (q : Request) (t : Transfer) → q.operation ≡ Deliver t → after S q ≡ after S (delivers q.at t)
unfolding after
after-asked S q t is = ap (after_asking S q.at) is

-- a reply that is the sequential service's after a record says about transfers what that does
sequential : (x : Service) → IsOpened x → (v w : View Request Content) (shard : ℕ) (front : List Entry) (q : Request) (r : Reply) → r ≡ answer (content_of x shard front) q
    → KeepsHistories (content_of x shard (gate.seen v shard)) (content_of x shard (gate.seen w shard)) → IsSequential x v w shard front q r
sequential x opened v w shard front q r reply kept = record {
  reply = reply;
  kept = kept;
  once = λ t n is accepted.
      let S = content_of x shard front in
      let d = delivers-once x opened shard front q.at t in
      let may = (d.only n (sym (answer-asked S q t is) ∙ sym reply ∙ accepted)).0 in
      (may.next, ap (λ (T : Content). accepted_from T.accepted t.from) (after-asked S q t is) ∙ (d.taken may).counted);
  only = λ t is other.
      let S = content_of x shard front in
      ap (λ (T : Content). T.runs) (after-asked S q t is ∙ (delivers-once x opened shard front q.at t).otherwise (λ e. other t.number (reply ∙ answer-asked S q t is ∙ e)));
}

-- a step of the gate, from the content at which the shard started, is one of the service
step-served : (x : Service) → IsOpened x → (v w : View Request Content) (shard : ℕ) (q : Request) (r : Reply) (step : gate.Stepped after answer KeepsHistories v w shard q r)
    → step.start ≡ start_of x shard → gate.Stamped v w shard → IsServedOn x v w shard q r
step-served x opened v w shard q r step start stamp = record {
  step = record { front = step.front; extends = step.extends; last = step.last; based = step.based; own = step.own; adds = step.adds; others = step.others };
  answered = sequential x opened v w shard step.front q r
      (step.reply ∙ ap (λ (c : Content). answer (replay after c step.front) q) start)
      (subst (λ (c : Content). KeepsHistories (replay after c (gate.seen v shard)) (replay after c (gate.seen w shard))) start step.kept);
  same = step.same;
  given = step.given;
  turns = step.turns;
  opened = step.opened ∙ ap Some start;
  ticket = stamp;
}

pub served : (p : Pass) (w : View Request Content) (x : Service) (shard : ℕ) (q : Request) (r : Reply) → IsPassOf p x → gate.Stepped after answer KeepsHistories (known_by p) w shard q r → gate.Stamped (known_by p) w shard → IsServedOn x (known_by p) w shard q r
served p w x shard q r own step stamp = step-served x own.opened (known_by p) w shard q r step (start-is p x shard step.start own step.opened) stamp

-- a ticket is above all that the pass had seen before it was turned away
stamped-behind : (v u w : View Request Content) (s : ℕ) → gate.SeenNothing v u → gate.Stamped v w s → gate.Stamped u w s
stamped-behind v u w s nothing t = record {
  ticket = t.ticket;
  above = λ k i n below is. t.above k i n (subst (λ o. k < length o.bases) nothing.same.1 below) (ap (λ l. slice_get l i) (sym (nothing.tickets k)) ∙ is);
  front = t.front;
  extends = subst (λ l. Begins l t.front) (sym (nothing.tickets s)) t.extends;
  last = t.last;
  pairs = t.pairs ∙ ap (λ o. length (past (rule.base o s) (gate.seen w s))) (sym nothing.same.1);
  others = λ k apart. t.others k apart ∙ sym (nothing.tickets k);
}

pub served-at-last : (p : Pass) (w : View Request Content) (x : Service) (shard : ℕ) (q : Request) (r : Reply) → IsPassOf p x → gate.SteppedAt after answer KeepsHistories (known_by p) w shard q r → gate.Stamped (known_by p) w shard → IsServedAtLast x (known_by p) w shard q r
served-at-last p w x shard q r own (met, waited, step) stamp =
    let same : slice_get (gate.starts (known_by p)) shard ≡ Some step.start = ap (λ o. slice_get o.starts shard) (sym waited.nothing.same.1) ∙ step.opened in
    record { met = met; waited = waited; served = step-served x own.opened met w shard q r step (start-is p x shard step.start own same) (stamped-behind (known_by p) met w shard waited.nothing stamp) }

-- what a client may ask needs nothing in other shards
pub needs-nothing : (contents : List Content) (shard : ℕ) (o : Operation) → is_clients o ≡ true → Grounds contents shard o
needs-nothing contents s (operation.Deliver t) h = absurd (cc)
needs-nothing contents s (operation.Acknowledge a) h = absurd (cc)
needs-nothing contents s (operation.Start q) h = tt
needs-nothing contents s (operation.Signal q) h = tt
needs-nothing contents s (operation.SignalWithStart q) h = tt
needs-nothing contents s (operation.RequestCancel q) h = tt
needs-nothing contents s (operation.Terminate q) h = tt
needs-nothing contents s (operation.StartTask q) h = tt
needs-nothing contents s (operation.CompleteWorkflowTask q) h = tt
needs-nothing contents s (operation.FailWorkflowTask q) h = tt
needs-nothing contents s (operation.CompleteActivity q) h = tt
needs-nothing contents s (operation.FailActivity q) h = tt
needs-nothing contents s (operation.CancelActivity q) h = tt
needs-nothing contents s (operation.Heartbeat q) h = tt
needs-nothing contents s (operation.History q) h = tt
needs-nothing contents s (operation.Describe q) h = tt
needs-nothing contents s operation.TimerTurn h = tt
needs-nothing contents s (operation.NextTransfer q) h = tt
needs-nothing contents s operation.NextDispatch h = tt
needs-nothing contents s (operation.Dispatched q) h = tt

-- what two clauses say about the value of an Ok
pub both : {T E : Type 0} (r : Result T E) (P Q R : T → Type 0) → ((x : T) → P x → Q x → R x) → IfOk r P → IfOk r Q → IfOk r R
both (Ok x) P Q R f h k = f x h k
both (Err e) P Q R f h k = tt

-- what holds of the value of an Ok
pub weaker : {T E : Type 0} (r : Result T E) (P Q : T → Type 0) → ((x : T) → P x → Q x) → IfOk r P → IfOk r Q
weaker (Ok x) P Q f h = f x h
weaker (Err e) P Q f h = tt

-- A step of the gate is one of the service, whichever way its parts are seen: x and p as they lie in memory are y and q as clauses read them
pub tried : (x y : Service) (p q : Pass) (w : gates.PassView) → x ≡ y → p ≡ q → (shard : ℕ) (a : Request) (result : Result Reply (Refused × Request)) → IsPassOf q y
    → gates.IsPassOf w x.gate → gate.number w.known ≡ gate.number p.inner.known
    → IfOk result (λ r. gate.Stepped after answer KeepsHistories p.inner.known w.known shard a r) → IfOk result (λ r. gate.Stamped p.inner.known w.known shard)
    → IfErr result (λ e. e.1 ≡ a) → IfErr result (λ e. gate.Refuses e.0 p.inner.known w.known shard)
    → IsTriedOn y q (record { inner = w; hints = p.hints }) None shard a result
tried x y p q w is same shard a result own kept named step stamp back err =
    let whole : Pass = record { inner = w; hints = p.hints } in
    let own_here : IsPassOf p x = subst (λ (z : Service). IsPassOf p z) (sym is) (subst (λ (u : Pass). IsPassOf u y) (sym same) own) in
    let here : IsTriedOn x p whole None shard a result = record {
      own = record { opened = own_here.opened; own = kept; hints = own_here.hints };
      named = named;
      hints = refl;
      ok = both result _ _ _ (λ r stepped stamped. served p w.known x shard a r own_here stepped stamped) step stamp;
      back = back;
      err = err;
    } in
    subst (λ (u : Pass). IsTriedOn y u whole None shard a result) same (subst (λ (z : Service). IsTriedOn z p whole None shard a result) is here)

-- the same, where it may have waited
pub served-on : {E : Type 0} (x y : Service) (p q : Pass) (w : gates.PassView) → x ≡ y → p ≡ q → (shard : ℕ) (a : Request) (result : Result Reply (E × Request)) → IsPassOf q y
    → gates.IsPassOf w x.gate → gate.number w.known ≡ gate.number p.inner.known
    → IfOk result (λ r. gate.SteppedAt after answer KeepsHistories p.inner.known w.known shard a r) → IfOk result (λ r. gate.Stamped p.inner.known w.known shard)
    → IfErr result (λ e. e.1 ≡ a) → IfErr result (λ e. gate.Waited p.inner.known w.known shard)
    → IsServedOnBy y q (record { inner = w; hints = p.hints }) None shard a result
served-on x y p q w is same shard a result own kept named step stamp back err =
    let whole : Pass = record { inner = w; hints = p.hints } in
    let own_here : IsPassOf p x = subst (λ (z : Service). IsPassOf p z) (sym is) (subst (λ (u : Pass). IsPassOf u y) (sym same) own) in
    let here : IsServedOnBy x p whole None shard a result = record {
      own = record { opened = own_here.opened; own = kept; hints = own_here.hints };
      named = named;
      hints = refl;
      ok = both result _ _ _ (λ r stepped stamped. served-at-last p w.known x shard a r own_here stepped stamped) step stamp;
      back = back;
      err = err;
    } in
    subst (λ (u : Pass). IsServedOnBy y u whole None shard a result) same (subst (λ (z : Service). IsServedOnBy z p whole None shard a result) is here)
