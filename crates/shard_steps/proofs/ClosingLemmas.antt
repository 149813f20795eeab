-- a step with a closing event closes its run, and so does a completion that continues as new
use Rattle.std.proofs.Common.{◌≡◌, ℕ, Bool, true, false, ◌&&◌, ◌||◌, List, [], ◌∷◌, ◌++◌, refl, sym, ap, ◌∙◌, Option, Some, None, cond}
use Rattle.std.specs.Prelude.{map, unwrap_or, not, Result, Ok, Err}
use Rattle.std.specs.List.{list_any}
use Rattle.wf_event.specs.declared.attributes.Attributes.{Attributes}
use Rattle.wf_event.specs.declared.attributes.Attributes.TheVariants.{WorkflowExecutionCompleted, WorkflowExecutionFailed, WorkflowExecutionTimedOut, WorkflowExecutionCanceled, WorkflowExecutionTerminated, WorkflowExecutionContinuedAsNew}
use Rattle.wf_event.specs.Role.{role, is_closing_role, closing_status}
use Rattle.wf_event_values.specs.Run.{Run}
use Rattle.wf_event_values.specs.declared.policies.Cause.{Cause}
use Rattle.wf_event_values.specs.declared.policies.Cause.TheVariants.{CommandAfterClose, BadContinueAsNewAttributes, UnhandledCommand}
use Rattle.wf_event_values.specs.declared.policies.Status.{Status}
use Rattle.wf_command.specs.declared.command.Command.{Command}
use Rattle.wf_command.specs.declared.command.Command.TheVariants.{ContinueAsNewWorkflowExecution}
use Rattle.wf_command.specs.declared.command.ContinueAsNew.{ContinueAsNew}
use Rattle.wf_command.specs.Check.{attributes_fault}
use Rattle.service_model_types.specs.declared.content.Setup.{Setup}
use Rattle.service_model.specs.Completion.{Judged, after_check, completed_task, fault_if, gives, go_on, is_some_held, judge, judge_all, judge_fields_good}
use Rattle.service_model.specs.Journal.{plain, latest, first_some}
use Rattle.service_model_types.specs.Routing.{knows_queue}
use Rattle.service_model.proofs.ThereLemmas.{closed-status}
use Rattle.service_model.specs.RunState.{RunState, is_open, is_open_status, is_there, queue_of, type_of}
use Rattle.service_model.specs.Tasks.{continue_part, is_started_task}
use Rattle.mutable_state.specs.Steps.{FitStep, after_step, all_written, step_ended, with_event, with_facts}

-- whether one of the events closes the run
abbrev pub closes : List Attributes → Bool
closes F = list_any (λ a. is_closing_role (role a)) F

status-closed : (a : Attributes) (s : Status) → is_closing_role (role a) ≡ true → is_open_status (unwrap_or (closing_status a) s) ≡ false
unfolding role closing_status
status-closed (WorkflowExecutionCompleted r) s h = refl
status-closed (WorkflowExecutionFailed m) s h = refl
status-closed WorkflowExecutionTimedOut s h = refl
status-closed (WorkflowExecutionCanceled d) s h = refl
status-closed (WorkflowExecutionTerminated r) s h = refl
status-closed (WorkflowExecutionContinuedAsNew c) s h = refl
status-closed _ s h = absurd (cc)

status-stays : (a : Attributes) (s : Status) → is_open_status s ≡ false → is_open_status (unwrap_or (closing_status a) s) ≡ false
unfolding closing_status
status-stays (WorkflowExecutionCompleted r) s h = refl
status-stays (WorkflowExecutionFailed m) s h = refl
status-stays WorkflowExecutionTimedOut s h = refl
status-stays (WorkflowExecutionCanceled d) s h = refl
status-stays (WorkflowExecutionTerminated r) s h = refl
status-stays (WorkflowExecutionContinuedAsNew c) s h = refl
status-stays _ s h = h

with-closed : (at : ℕ) (F : List Attributes) (s : RunState) → is_open s ≡ false → is_open (with_facts at (map plain F) s) ≡ false
with-closed at [] s h = h
with-closed at (a ∷ F) s h = with-closed at F (with_event at None a s) (by_there (is_there s) h)
  where
    by_there : (b : Bool) → (b && is_open_status s.status) ≡ false → (b && is_open_status (unwrap_or (closing_status a) s.status)) ≡ false
    by_there true over = status-stays a s.status over
    by_there false over = refl

with-closing : (at : ℕ) (F : List Attributes) (s : RunState) → closes F ≡ true → is_open (with_facts at (map plain F) s) ≡ false
with-closing at [] s h = absurd (cc)
with-closing at (a ∷ F) s h = by_test (is_closing_role (role a)) refl (with-closing at F (with_event at None a s)) h
  where
    by_test : (b : Bool) → is_closing_role (role a) ≡ b → (closes F ≡ true → is_open (with_facts at (map plain F) (with_event at None a s)) ≡ false) → (b || closes F) ≡ true → is_open (with_facts at (map plain F) (with_event at None a s)) ≡ false
    by_test true is later g = let t = with_event at None a s in with-closed at F t (closed-status t (status-closed a s.status is))
    by_test false is later g = later g

-- the run has closed after the step
pub closed-behind : (at : ℕ) (F : List Attributes) (s : RunState) → closes F ≡ true → is_open (after_step at (map plain F) s) ≡ false
closed-behind at F s h = by_task (with_facts at (map plain F) s) (with-closing at F s h)
  where
    by_task : (t : RunState) → is_open t ≡ false → is_open (step_ended t) ≡ false
    by_task t over = by_test (is_started_task t.task)
      where
        by_test : (b : Bool) → is_open (cond b t (all_written t)) ≡ false
        by_test true = over
        by_test false = over

pub terminated-behind : (at : ℕ) (s : RunState) (reason : List ℕ) → is_open (after_step at (plain (WorkflowExecutionTerminated reason) ∷ []) s) ≡ false
unfolding role
terminated-behind at s reason = closed-behind at (WorkflowExecutionTerminated reason ∷ []) s refl

or-true : (b : Bool) → (b || true) ≡ true
or-true true = refl
or-true false = refl

closes-behind : (F G : List Attributes) → closes G ≡ true → closes (F ++ G) ≡ true
closes-behind [] G h = h
closes-behind (a ∷ F) G h = ap (λ b. is_closing_role (role a) || b) (closes-behind F G h) ∙ or-true (is_closing_role (role a))

closes-before : (F G : List Attributes) → closes F ≡ true → closes (F ++ G) ≡ true
closes-before [] G h = absurd (cc)
closes-before (a ∷ F) G h = by_test (is_closing_role (role a)) (closes-before F G) h
  where
    by_test : (b : Bool) → (closes F ≡ true → closes (F ++ G) ≡ true) → (b || closes F) ≡ true → (b || closes (F ++ G)) ≡ true
    by_test true later g = refl
    by_test false later g = later g

-- a completion whose commands close its run
pub completed-behind : (at : ℕ) (s : RunState) (F : List Attributes) → closes F ≡ true → is_open (after_step at (map plain (completed_task s F)) s) ≡ false
unfolding completed_task role
completed-behind at s F h = closed-behind at (completed_task s F) s (closes-before F _ h)

pub completed-open : (at : ℕ) (s : RunState) (F : List Attributes) → FitStep at s (map plain (completed_task s F)) → is_open s ≡ true
unfolding completed_task
completed-open at s F h = h.0.open_run

not-fault : (b : Bool) (cause : Cause) (rest : Judged) (G : List Attributes) → fault_if b cause rest ≡ Ok G → rest ≡ Ok G
not-fault true cause rest G h = absurd (cc)
not-fault false cause rest G h = h

after-good : (r : Result (Unit {0}) Cause) (rest : Judged) (G : List Attributes) → after_check r rest ≡ Ok G → rest ≡ Ok G
after-good (Ok u) rest G h = h
after-good (Err cause) rest G h = absurd (cc)

same-ok : (F G : List Attributes) → ◌≡◌ {A = Judged} (Ok F) (Ok G) → F ≡ G
same-ok F G e = cc

judged-closes : (setup : Setup) (next : Run) (s : RunState) (F : List Attributes) (c : ContinueAsNew) (G : List Attributes) → judge setup next s F (ContinueAsNewWorkflowExecution c) ≡ Ok G → closes G ≡ true
unfolding judge judge_fields_good role
judged-closes setup next s F c G h =
    let queue = unwrap_or c.task_queue (queue_of s) in
    let event = gives (WorkflowExecutionContinuedAsNew (record { new_run = next; workflow_type = unwrap_or c.workflow_type (type_of s); task_queue = queue; input = c.input })) in
    let last : Judged = fault_if (is_some_held s F) UnhandledCommand event in
    let fields : Judged = fault_if (not (knows_queue setup queue)) BadContinueAsNewAttributes last in
    let good = after-good (attributes_fault (ContinueAsNewWorkflowExecution c)) fields G (not-fault (closes F) CommandAfterClose (after_check (attributes_fault (ContinueAsNewWorkflowExecution c)) fields) G h) in
    let given = not-fault (is_some_held s F) UnhandledCommand event G (not-fault (not (knows_queue setup queue)) BadContinueAsNewAttributes last G good) in
    ap closes (sym (same-ok _ G given))

-- nothing comes after a closing command
closed-stops : (setup : Setup) (next : Run) (s : RunState) (F G : List Attributes) (cs : List Command) → closes F ≡ true → judge_all setup next s F cs ≡ Ok G → closes G ≡ true
unfolding judge_all judge
closed-stops setup next s F G [] closed h = ap closes (sym (same-ok F G h)) ∙ closed
closed-stops setup next s F G (c ∷ cs) closed h =
    absurd (let e = ap (λ b. go_on (fault_if b CommandAfterClose (after_check (attributes_fault c) (judge_fields_good setup next s F c))) (λ facts. judge_all setup next s (F ++ facts) cs)) (sym closed) ∙ h in cc)

-- commands that continue as new, and have no fault, close the run
pub continues-close : (setup : Setup) (next : Run) (s : RunState) (F G : List Attributes) (cs : List Command) (c : ContinueAsNew) → latest continue_part cs ≡ Some c → judge_all setup next s F cs ≡ Ok G → closes G ≡ true
unfolding judge_all
continues-close setup next s F G [] c found h = absurd (cc)
continues-close setup next s F G (d ∷ cs) c found h =
    by_rest (λ facts e is k. continues-close setup next s (F ++ facts) G cs e is k) (latest continue_part cs) refl found
  where
    further : ((facts : List Attributes) (e : ContinueAsNew) → latest continue_part cs ≡ Some e → judge_all setup next s (F ++ facts) cs ≡ Ok G → closes G ≡ true) → (e : ContinueAsNew) → latest continue_part cs ≡ Some e → (r : Judged) → go_on r (λ facts. judge_all setup next s (F ++ facts) cs) ≡ Ok G → closes G ≡ true
    further later e is (Ok facts) k = later facts e is k
    further later e is (Err cause) k = absurd (cc)

    behind : (x : ContinueAsNew) (r : Judged) → judge setup next s F (ContinueAsNewWorkflowExecution x) ≡ r → go_on r (λ facts. judge_all setup next s (F ++ facts) cs) ≡ Ok G → closes G ≡ true
    behind x (Ok facts) is k = closed-stops setup next s (F ++ facts) G cs (closes-behind F facts (judged-closes setup next s F x facts is)) k
    behind x (Err cause) is k = absurd (cc)

    here : (e : Command) → continue_part e ≡ Some c → go_on (judge setup next s F e) (λ facts. judge_all setup next s (F ++ facts) cs) ≡ Ok G → closes G ≡ true
    here (ContinueAsNewWorkflowExecution x) is k = behind x (judge setup next s F (ContinueAsNewWorkflowExecution x)) refl k
    here _ is k = absurd (cc)

    by_rest : ((facts : List Attributes) (e : ContinueAsNew) → latest continue_part cs ≡ Some e → judge_all setup next s (F ++ facts) cs ≡ Ok G → closes G ≡ true) → (o : Option ContinueAsNew) → latest continue_part cs ≡ o → first_some o (continue_part d) ≡ Some c → closes G ≡ true
    by_rest later (Some e) is g = further later e is (judge setup next s F d) h
    by_rest later None is g = here d g h
