-- MEANING: what a poll and a dispatch turn do, part by part
use Rattle.std.specs.Prelude.{◌≡◌, ◌⊎◌, ℕ, List, Option, None, Some, Result, Ok, Err, IfOk, IfErr}
use Rattle.wf_event_values.specs.declared.policies.TaskKind.{TaskKind}
use Rattle.wf_event_values.specs.declared.refusal.Refusal.{Refusal}
use Rattle.wf_event_values.specs.declared.refusal.Refusal.TheVariants.{UnknownTaskQueue}
use Rattle.service_model_types.specs.declared.answer.Answer.TheVariants as answer
use Rattle.service_model_types.specs.declared.answer.NumberedDispatch.{NumberedDispatch}
use Rattle.service_model_types.specs.declared.content.Content.{Content}
use Rattle.service_model_types.specs.declared.request.Hint.{Hint}
use Rattle.service_model_types.specs.declared.request.Request.{Request}
use Rattle.service_model_types.specs.Replies.{dispatch_of, Reply}
use Rattle.gate.specs.declared.view.View.{View}
use Rattle.gate.specs.Passes.{Waited}
use Rattle.gate.specs.Passes as gate
use Rattle.matching.specs.declared.view.View.{View as HintView}
use Rattle.matching.specs.Named as matching
use Rattle.matching.specs.Named.{place_in, slot_of, StoodAt, TakenAt, Pushes}
use Rattle.service.specs.ServiceViews.{Pass}
use Rattle.service.specs.ServiceViews.{Service}
use Rattle.service_model_types.specs.declared.call.Stop.{Stop}
use Rattle.service_model_types.specs.declared.call.Stop.TheVariants.{AtEnd, AfterFirstPart, AfterSecondPart}
use Rattle.service.specs.CallRequests.{to_start_task, to_next_dispatch, to_dispatched}
use Rattle.service.specs.Contents.{shard_refusal}
use Rattle.service.specs.Services.{Answered, IsPassOf, IsServedAtLast, hints_by, known_by}

-- the place of a queue of that name, if there is one
abbrev pub place_of : Service → List ℕ → Option ℕ
place_of x queue = place_in (matching.names_of x.queues) queue

-- the request was answered on a shard to a pass that knew v and then knows w: it was served there, or refused before the shard was entered
abbrev pub AnsweredOn : Service → ℕ → (v w : View Request Content) → Request → Reply → Type 0
AnsweredOn x shard v w q r = Answered (shard_refusal x.settings shard) (IsServedAtLast x v w shard q r) v w r

-- What a poll comes to. The queue was not named; or none waited in it at one moment; or a hint was popped, and its task asked for
abbrev pub Polls : Service → Option ℕ → TaskKind → ℕ → (v w : View Request Content) → (hs ws : List HintView) → Option Reply → Type 0
Polls x None kind at v w hs ws r = (r ≡ Some (Err UnknownTaskQueue)) × (w ≡ v) × (ws ≡ hs)
Polls x (Some place) kind at v w hs ws None = (w ≡ v) × StoodAt hs ws (slot_of place kind) 0
Polls x (Some place) kind at v w hs ws (Some r) =
    (h : Hint) × TakenAt hs ws (slot_of place kind) h × IsServedAtLast x v w h.shard (to_start_task at h) r

-- where memory was refused, this hint was popped and no step made
abbrev pub PollKept : Option ℕ → TaskKind → (v w : View Request Content) → (hs ws : List HintView) → Hint → Type 0
PollKept None kind v w hs ws h = ⊥
PollKept (Some place) kind v w hs ws h = TakenAt hs ws (slot_of place kind) h × Waited v w h.shard

-- what a call made of a poll of the queue of that name
pub record IsPolled {E : Type 0} (x : Service) (p p' : Pass) (queue : List ℕ) (kind : TaskKind) (at : ℕ)
    (result : Result (Option Reply) (E × Hint)) : Type 0 where
  pub own : IsPassOf p' x
  pub named : gate.number (known_by p') ≡ gate.number (known_by p)
  pub ok : IfOk result (λ r. Polls x (place_of x queue) kind at (known_by p) (known_by p') (hints_by p) (hints_by p') r)
  pub err : IfErr result (λ e. PollKept (place_of x queue) kind (known_by p) (known_by p') (hints_by p) (hints_by p') e.1)

-- the last part: the dispatch is counted, whatever that answers
pub record Counts (x : Service) (shard at number : ℕ) (v w : View Request Content) : Type 0 where
  pub reply : Reply
  pub step : AnsweredOn x shard v w (to_dispatched at number) reply

-- what follows a push: an Ok is followed by the last part, unless the turn is to end there
abbrev pub AfterPush : Service → (shard at : ℕ) → Stop → ℕ → (v w : View Request Content) → Result (Unit {0}) Refusal → Reply → Type 0
AfterPush x shard at AtEnd number v w (Ok done) r = (r ≡ Ok (answer.Dispatched number)) × Counts x shard at number v w
AfterPush x shard at AfterFirstPart number v w (Ok done) r = ⊥
AfterPush x shard at AfterSecondPart number v w (Ok done) r = (r ≡ Ok (answer.Pushed number)) × (w ≡ v)
AfterPush x shard at stop number v w (Err e) r = (r ≡ Err e) × (w ≡ v)

-- the second part: the hint is pushed to its queue
pub record Pushing (x : Service) (shard at : ℕ) (stop : Stop) (d : NumberedDispatch) (v w : View Request Content) (hs ws : List HintView)
    (r : Reply) : Type 0 where
  pub pushed : Result (Unit {0}) Refusal
  pub push : Pushes (place_of x d.dispatch.queue) (matching.capacity_of x.queues) hs ws d.dispatch.hint pushed
  pub rest : AfterPush x shard at stop d.number v w pushed r

abbrev pub AfterDispatch : Service → (shard at : ℕ) → Stop → NumberedDispatch → (v w : View Request Content) → (hs ws : List HintView)
    → Reply → Type 0
AfterDispatch x shard at AfterFirstPart d v w hs ws r = (r ≡ Ok (answer.Taken d.number)) × (w ≡ v) × (ws ≡ hs)
AfterDispatch x shard at stop d v w hs ws r = Pushing x shard at stop d v w hs ws r

-- what follows the first part: without a dispatch its reply is the turn's
abbrev pub AfterNext : Service → (shard at : ℕ) → Stop → Reply → Option NumberedDispatch → (v w : View Request Content)
    → (hs ws : List HintView) → Reply → Type 0
AfterNext x shard at stop next None v w hs ws r = (r ≡ next) × (w ≡ v) × (ws ≡ hs)
AfterNext x shard at stop next (Some d) v w hs ws r = AfterDispatch x shard at stop d v w hs ws r

-- A dispatch turn: the first part reads the next dispatch of the shard, and the rest follows from its reply
pub record Turns (x : Service) (shard at : ℕ) (stop : Stop) (v w : View Request Content) (hs ws : List HintView) (r : Reply) : Type 0 where
  pub next : Reply
  pub met : View Request Content
  pub step : AnsweredOn x shard v met (to_next_dispatch at) next
  pub rest : AfterNext x shard at stop next (dispatch_of next) met w hs ws r

-- Where memory was refused, it was in the first part; or the first part answered a dispatch, whose hint was pushed
pub record TurnPushed (x : Service) (shard at : ℕ) (v w : View Request Content) (hs ws : List HintView) : Type 0 where
  pub next : Reply
  pub met : View Request Content
  pub step : AnsweredOn x shard v met (to_next_dispatch at) next
  pub taken : NumberedDispatch
  pub found : dispatch_of next ≡ Some taken
  pub push : Pushes (place_of x taken.dispatch.queue) (matching.capacity_of x.queues) hs ws taken.dispatch.hint (Ok tt)
  pub waited : Waited met w shard

abbrev pub TurnKept : Service → (shard at : ℕ) → (v w : View Request Content) → (hs ws : List HintView) → Type 0
TurnKept x shard at v w hs ws = (Waited v w shard × (ws ≡ hs)) ⊎ TurnPushed x shard at v w hs ws
