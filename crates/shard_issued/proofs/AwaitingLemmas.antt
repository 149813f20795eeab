-- the tasks that wait are found among those that were scheduled
use Rattle.std.proofs.Common.{◌≡◌, ℕ, List, [], ◌∷◌, ◌++◌, refl, ap, ◌∙◌, append-nil, Option, Some, None}
use Rattle.std.proofs.lemmas.List.Elements.{filter_map-append}
use Rattle.std.specs.Prelude.{filter_map}
use Rattle.std.specs.List.{cons_option}
use Rattle.wf_event.specs.declared.event.Event.{Event}
use Rattle.wf_event.specs.declared.attributes.Attributes.{Attributes}
use Rattle.wf_event.specs.declared.attributes.Attributes.TheVariants.{WorkflowTaskScheduled, ActivityTaskScheduled}
use Rattle.service_model_types.specs.declared.content.Dispatch.{Dispatch}
use Rattle.service_model_types.specs.declared.content.Setup.{Setup}
use Rattle.service_model.specs.Issued.{task_dispatch}
use Rattle.service_model.specs.RunState.{RunState}
use Rattle.service_model.specs.Waiting.{waiting_task}
use Rattle.shard_issued.specs.Awaiting.{still_waiting}

-- what waits of what an event schedules, if it schedules a task
waiting-one : (setup : Setup) (run : ℕ) (s : RunState) (e : Event) (rest : List Dispatch) →
    filter_map (still_waiting setup run s) (cons_option (task_dispatch setup run e) rest) ≡ cons_option (waiting_task setup run s e) (filter_map (still_waiting setup run s) rest)
waiting-one setup run s e rest = by_kind e.id e.at e.attributes
  where
    by_kind : (id at : ℕ) (a : Attributes) →
        filter_map (still_waiting setup run s) (cons_option (task_dispatch setup run (record { id = id; at = at; attributes = a })) rest)
        ≡ cons_option (waiting_task setup run s (record { id = id; at = at; attributes = a })) (filter_map (still_waiting setup run s) rest)
    by_kind id at (WorkflowTaskScheduled a) = refl
    by_kind id at (ActivityTaskScheduled a) = refl
    by_kind id at _ = refl

pub waiting-among : (setup : Setup) (run : ℕ) (s : RunState) (es : List Event) → filter_map (still_waiting setup run s) (filter_map (task_dispatch setup run) es) ≡ filter_map (waiting_task setup run s) es
waiting-among setup run s [] = refl
waiting-among setup run s (e ∷ es) = waiting-one setup run s e (filter_map (task_dispatch setup run) es) ∙ ap (cons_option (waiting_task setup run s e)) (waiting-among setup run s es)

-- one more of those that a loop looks at
pub found-one : {A B : Type 0} (f : A → Option B) (xs : List A) (x : A) (y : B) → f x ≡ Some y → filter_map f (xs ++ x ∷ []) ≡ filter_map f xs ++ y ∷ []
found-one f xs x y is = filter_map-append f xs (x ∷ []) ∙ ap (λ o. filter_map f xs ++ cons_option o []) is

pub found-none : {A B : Type 0} (f : A → Option B) (xs : List A) (x : A) → f x ≡ None → filter_map f (xs ++ x ∷ []) ≡ filter_map f xs
found-none f xs x is = filter_map-append f xs (x ∷ []) ∙ ap (λ o. filter_map f xs ++ cons_option o []) is ∙ append-nil (filter_map f xs)
