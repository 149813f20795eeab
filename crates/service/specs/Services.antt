-- MEANING: what a clause reads of a service and of its passes
use Rattle.std.specs.Prelude.{◌≡◌, ℕ, ◌<◌, ◌≤◌, true, List, length, slice_get, Option, None, Some, Err, Result, IfOk, IfErr}
use Rattle.wf_event_values.specs.Limits.{IsSpan}
use Rattle.wf_event_values.specs.declared.refusal.Refusal.{Refusal}
use Rattle.service_model_types.specs.declared.call.StepCall.{StepCall}
use Rattle.service_model_types.specs.declared.content.Content.{Content}
use Rattle.service_model_types.specs.declared.request.Request.{Request}
use Rattle.service_model_types.specs.declared.settings.Settings.{Settings}
use Rattle.service_model_types.specs.Calls.{request_of}
use Rattle.service_model_types.specs.Limits.{most_capacity, most_passes, most_queues, most_shards, service_numbers}
use Rattle.service_model_types.specs.Replies.{Reply}
use Rattle.gate.specs.declared.object.Refused.{Refused}
use Rattle.gate.specs.declared.view.View.{View}
use Rattle.gate.specs.Passes as gate
use Rattle.gate.specs.Records.{FromGiven, past}
use Rattle.shard_gate.specs.GateViews as gates
use Rattle.service.specs.ServiceViews.{Service}
use Rattle.service.specs.ServiceViews.{Pass}
use Rattle.matching.specs.declared.view.View.{View as HintView}
use Rattle.matching.specs.Named as matching
use Rattle.service.specs.Ranges.{are_different}
use Rattle.service.specs.Headline.{IsSequential, LeavesARecord}
use Rattle.service.specs.Starting.{AreStarts, start_of}
use Rattle.service.specs.Contents.{refusal_of, slot_of, refusal_of_step, slot_of_step}

abbrev pub settings_of : Service → Settings
settings_of x = x.settings

-- the shard on which a request is served
abbrev pub shard_of_request : Service → Request → ℕ
shard_of_request x q = slot_of x.settings q

-- what a pass knows: of each shard the record that it last saw, and its own steps in it
abbrev pub known_by : Pass → View Request Content
known_by p = p.inner.known

-- what it knows of the hints in each queue
abbrev pub hints_by : Pass → List HintView
hints_by p = matching.known_by p.hints

-- the settings are in their ranges
pub record IsInRange (K : Settings) : Type 0 where
  pub some_shard : 1 ≤ K.shards
  pub few_shards : K.shards ≤ most_shards
  pub some_pass : 1 ≤ K.passes
  pub few_passes : K.passes ≤ most_passes
  pub service : K.service < service_numbers
  pub some_queue : 1 ≤ length K.queues
  pub few_queues : length K.queues ≤ most_queues
  pub different : are_different K.queues ≡ true
  pub some_capacity : 1 ≤ K.capacity
  pub few_capacity : K.capacity ≤ most_capacity
  pub retention : IsSpan K.retention

-- the service was opened by its settings, or resumed
pub record IsOpened (x : Service) : Type 0 where
  pub range : IsInRange x.settings
  pub slots : gates.slots x.gate ≡ x.settings.shards
  pub starts : AreStarts x.settings (gates.starts_of x.gate)
  pub passes : gates.given x.gate ≡ x.settings.passes
  pub names : matching.names_of x.queues ≡ x.settings.queues
  pub capacity : matching.capacity_of x.queues ≡ x.settings.capacity
  pub named_shards : matching.shards_of x.queues ≡ x.settings.shards
  pub hint_passes : matching.given_of x.queues ≡ x.settings.passes

-- the pass is one that this service gave
pub record IsPassOf (p : Pass) (x : Service) : Type 0 where
  pub opened : IsOpened x
  pub own : gates.IsPassOf p.inner x.gate
  pub hints : matching.IsPassOf p.hints x.queues

-- A request was served on a shard to a pass that knew v and then knows w, as the headline says
pub record IsServedOn (x : Service) (v w : View Request Content) (shard : ℕ) (q : Request) (r : Reply) : Type 0 where
  pub step : LeavesARecord v w shard q
  pub answered : IsSequential x v w shard step.front q r
  pub same : gate.IsSame v w
  -- every entry since the opening is of a pass that the service gave
  pub given : FromGiven (gate.passes v) (past (gate.base v shard) (gate.seen w shard))
  -- no enter was turned away
  pub turns : (k : ℕ) → gate.turned w k ≡ gate.turned v k
  pub opened : slice_get (gate.starts v) shard ≡ Some (start_of x shard)
  -- the step has a ticket of its own, above all that the pass had seen
  pub ticket : gate.Stamped v w shard

-- a request is served on its own shard
abbrev pub IsServed : Service → View Request Content → View Request Content → Request → Reply → Type 0
IsServed x v w q r = IsServedOn x v w (shard_of_request x q) q r

-- a request was served on a shard, after perhaps some turns in which another pass was found there
pub record IsServedAtLast (x : Service) (v w : View Request Content) (shard : ℕ) (q : Request) (r : Reply) : Type 0 where
  pub met : View Request Content
  pub waited : gate.Waited v met shard
  pub served : IsServedOn x met w shard q r

-- By what refuses a request before any shard is entered, if anything does: nothing, and then it was served;
-- or the reply is that refusal, and what the pass knows is as it was
abbrev pub Answered : Option Refusal → Type 0 → View Request Content → View Request Content → Reply → Type 0
Answered None served v w r = served
Answered (Some e) served v w r = (r ≡ Err e) × (w ≡ v)

-- what a request for a shard came to, where this refuses it if anything does: it was served there, or refused before any shard was entered
abbrev pub ServedOn : Service → Pass → Pass → Option Refusal → ℕ → Request → Reply → Type 0
ServedOn x p p' refusal shard q r = Answered refusal (IsServedOn x (known_by p) (known_by p') shard q r) (known_by p) (known_by p') r

-- the same, where it may have waited
abbrev pub ServedOnAtLast : Service → Pass → Pass → Option Refusal → ℕ → Request → Reply → Type 0
ServedOnAtLast x p p' refusal shard q r =
    Answered refusal (IsServedAtLast x (known_by p) (known_by p') shard q r) (known_by p) (known_by p') r

-- What a call that never waits made of a request for a shard: it was answered; or it comes back, nothing was seen or done,
-- and another pass was found on that very shard, or a growth was refused
pub record IsTriedOn (x : Service) (p p' : Pass) (refusal : Option Refusal) (shard : ℕ) (q : Request)
    (result : Result Reply (Refused × Request)) : Type 0 where
  pub own : IsPassOf p' x
  pub named : gate.number (known_by p') ≡ gate.number (known_by p)
  pub hints : hints_by p' ≡ hints_by p
  pub ok : IfOk result (λ r. ServedOn x p p' refusal shard q r)
  pub back : IfErr result (λ e. e.1 ≡ q)
  pub err : IfErr result (λ e. gate.Refuses e.0 (known_by p) (known_by p') shard)

-- What a call that may wait made of a request for a shard: it was answered; or it comes back, nothing was seen or done,
-- and a growth was refused
pub record IsServedOnBy {E : Type 0} (x : Service) (p p' : Pass) (refusal : Option Refusal) (shard : ℕ) (q : Request)
    (result : Result Reply (E × Request)) : Type 0 where
  pub own : IsPassOf p' x
  pub named : gate.number (known_by p') ≡ gate.number (known_by p)
  pub hints : hints_by p' ≡ hints_by p
  pub ok : IfOk result (λ r. ServedOnAtLast x p p' refusal shard q r)
  pub back : IfErr result (λ e. e.1 ≡ q)
  pub err : IfErr result (λ e. gate.Waited (known_by p) (known_by p') shard)

-- what a call made of a request for the request's own shard
abbrev pub IsTried : Service → Pass → Pass → Request → Result Reply (Refused × Request) → Type 0
IsTried x p p' q result = IsTriedOn x p p' (refusal_of x.settings q.operation) (shard_of_request x q) q result

abbrev pub IsServedBy : {E : Type 0} → Service → Pass → Pass → Request → Result Reply (E × Request) → Type 0
IsServedBy x p p' q result = IsServedOnBy x p p' (refusal_of x.settings q.operation) (shard_of_request x q) q result

-- what came of a call, by the step that it makes
abbrev pub IsTriedStep : Service → Pass → Pass → StepCall → Result Reply (Refused × Request) → Type 0
IsTriedStep x p p' c result = IsTriedOn x p p' (refusal_of_step x.settings c) (slot_of_step x.settings c) (request_of c) result

abbrev pub IsServedStep : {E : Type 0} → Service → Pass → Pass → StepCall → Result Reply (E × Request) → Type 0
IsServedStep x p p' c result = IsServedOnBy x p p' (refusal_of_step x.settings c) (slot_of_step x.settings c) (request_of c) result
