-- the lines of replies, piece by piece
use Rattle.std.proofs.Common.{◌≡◌, ℕ, List, [], ◌∷◌, ◌++◌, codes, decimal, refl, sym, ap, ◌∙◌, append_assoc}
use Rattle.json.specs.Print.{escape, escape_byte, quoted}
use Rattle.serde_json.specs.Data.{object}
use Rattle.serde_json.specs.Written.{compact_text}
use Rattle.task_token.specs.RunTexts.{run_text}
use Rattle.text_pieces.proofs.PieceLemmas.{flat, grown, grown-flat, flat-push, in-quotes, More, more, one}
use Rattle.wf_event_values.specs.Run.{Run}
use Rattle.wire_replies.specs.Answers.{line_member, ok_member, with_run}
use Rattle.wire_replies.specs.Replies.{line_of}
use Rattle.wire_replies.specs.Tasks.{token_of, workflow_task_members}
use Rattle.task_token.specs.TokenTexts.{token_text}
use Rattle.wf_event_values.specs.declared.policies.TaskKind.TheVariants.{Workflow}
use Rattle.service_model_types.specs.declared.answer.WorkflowTask.{WorkflowTask}

-- the pieces of a line, of which the last ends in its line feed
ended : (ps : List (List ℕ)) (last text : List ℕ) → text ≡ flat (ps ++ last ∷ []) → grown [] (ps ++ (last ++ 10 ∷ []) ∷ []) ≡ text ++ 10 ∷ []
ended ps last text is =
    grown-flat [] (ps ++ (last ++ 10 ∷ []) ∷ []) ∙ flat-push ps (last ++ 10 ∷ []) ∙ sym (append_assoc (flat ps) last (10 ∷ []))
    ∙ ap (λ t. t ++ 10 ∷ []) (sym (flat-push ps last) ∙ sym is)

signaled-line : (line : ℕ) → grown [] (codes "{\"line\":" ∷ decimal line ∷ codes ",\"ok\":\"signaled\"}\n" ∷ []) ≡ line_of (object (ok_member (codes "signaled") (line_member line)))
unfolding escape_byte
signaled-line line = ended (codes "{\"line\":" ∷ decimal line ∷ []) (codes ",\"ok\":\"signaled\"}") (compact_text (object (ok_member (codes "signaled") (line_member line)))) refl

completed-line : (line : ℕ) → grown [] (codes "{\"line\":" ∷ decimal line ∷ codes ",\"ok\":\"completed\"}\n" ∷ []) ≡ line_of (object (ok_member (codes "completed") (line_member line)))
unfolding escape_byte
completed-line line = ended (codes "{\"line\":" ∷ decimal line ∷ []) (codes ",\"ok\":\"completed\"}") (compact_text (object (ok_member (codes "completed") (line_member line)))) refl

started-line : (line : ℕ) (run : Run) → escape (run_text run) ≡ run_text run
    → grown [] (codes "{\"line\":" ∷ decimal line ∷ codes ",\"ok\":\"started\",\"run\":\"" ∷ run_text run ∷ codes "\"}\n" ∷ []) ≡ line_of (object (with_run (codes "started") run (line_member line)))
unfolding escape_byte
started-line line run plain_run =
    ended (codes "{\"line\":" ∷ decimal line ∷ codes ",\"ok\":\"started\",\"run\":\"" ∷ run_text run ∷ []) (codes "\"}") (compact_text (object (with_run (codes "started") run (line_member line))))
    (ap (λ t. codes "{\"line\":" ++ (decimal line ++ (codes ",\"ok\":\"started\",\"run\":" ++ t))) (in-quotes (run_text run) (125 ∷ []) plain_run))

task-line : (line : ℕ) (t : WorkflowTask) (token : List ℕ) → token ≡ token_text (token_of Workflow t.run t.scheduled t.attempt)
    → escape token ≡ token → escape (run_text t.run) ≡ run_text t.run → escape t.workflow_id ≡ t.workflow_id
    → grown [] (codes "{\"attempt\":" ∷ decimal t.attempt ∷ codes ",\"line\":" ∷ decimal line ∷ codes ",\"ok\":\"task\",\"run\":\"" ∷ run_text t.run ∷ codes "\",\"started\":" ∷ decimal t.started
    ∷ codes ",\"token\":\"" ∷ token ∷ codes "\",\"workflow_id\":\"" ∷ t.workflow_id ∷ codes "\"}\n" ∷ [])
    ≡ line_of (object (workflow_task_members t (line_member line)))
unfolding escape_byte workflow_task_members
task-line line t token is plain_token plain_run plain_id =
    let text = compact_text (object (workflow_task_members t (line_member line))) in
    let named : List ℕ → List ℕ = λ x. codes ",\"workflow_id\":" ++ x in
    let id = in-quotes t.workflow_id (125 ∷ []) plain_id in
    let tokened = ap (λ x. quoted x ++ named (quoted t.workflow_id ++ 125 ∷ [])) (sym is) ∙ in-quotes token (named (quoted t.workflow_id ++ 125 ∷ [])) plain_token ∙ ap (λ x. 34 ∷ (token ++ 34 ∷ named x)) id in
    let ran : List ℕ → List ℕ = λ x. 34 ∷ (run_text t.run ++ 34 ∷ (codes ",\"started\":" ++ (decimal t.started ++ (codes ",\"token\":" ++ x)))) in
    ended (codes "{\"attempt\":" ∷ decimal t.attempt ∷ codes ",\"line\":" ∷ decimal line ∷ codes ",\"ok\":\"task\",\"run\":\"" ∷ run_text t.run ∷ codes "\",\"started\":" ∷ decimal t.started
    ∷ codes ",\"token\":\"" ∷ token ∷ codes "\",\"workflow_id\":\"" ∷ t.workflow_id ∷ []) (codes "\"}") text
    (ap (λ x. codes "{\"attempt\":" ++ (decimal t.attempt ++ (codes ",\"line\":" ++ (decimal line ++ (codes ",\"ok\":\"task\",\"run\":" ++ x))))) (in-quotes (run_text t.run) _ plain_run ∙ ap ran tokened))

-- ---- the same of texts that grew by two pieces at a time

pub signaled : (line : ℕ) (a b c : List ℕ) → a ≡ [] → More a (codes "{\"line\":") (decimal line) b → c ≡ b ++ codes ",\"ok\":\"signaled\"}\n"
    → c ≡ line_of (object (ok_member (codes "signaled") (line_member line)))
signaled line a b c e1 e2 e3 = one b _ _ c (more a _ _ _ b e1 e2) e3 ∙ signaled-line line

pub completed : (line : ℕ) (a b c : List ℕ) → a ≡ [] → More a (codes "{\"line\":") (decimal line) b → c ≡ b ++ codes ",\"ok\":\"completed\"}\n"
    → c ≡ line_of (object (ok_member (codes "completed") (line_member line)))
completed line a b c e1 e2 e3 = one b _ _ c (more a _ _ _ b e1 e2) e3 ∙ completed-line line

pub started : (line : ℕ) (r : Run) (a b c d : List ℕ) → a ≡ [] → More a (codes "{\"line\":") (decimal line) b
    → More b (codes ",\"ok\":\"started\",\"run\":\"") (run_text r) c → d ≡ c ++ codes "\"}\n"
    → escape (run_text r) ≡ run_text r → d ≡ line_of (object (with_run (codes "started") r (line_member line)))
started line r a b c d e1 e2 e3 e4 plain_run = one c _ _ d (more b _ _ _ c (more a _ _ _ b e1 e2) e3) e4 ∙ started-line line r plain_run

pub task : (line : ℕ) (t : WorkflowTask) (token a b c d e f g h : List ℕ) → token ≡ token_text (token_of Workflow t.run t.scheduled t.attempt) → a ≡ []
    → More a (codes "{\"attempt\":") (decimal t.attempt) b → More b (codes ",\"line\":") (decimal line) c
    → More c (codes ",\"ok\":\"task\",\"run\":\"") (run_text t.run) d → More d (codes "\",\"started\":") (decimal t.started) e
    → More e (codes ",\"token\":\"") token f → More f (codes "\",\"workflow_id\":\"") t.workflow_id g → h ≡ g ++ codes "\"}\n"
    → escape token ≡ token → escape (run_text t.run) ≡ run_text t.run → escape t.workflow_id ≡ t.workflow_id
    → h ≡ line_of (object (workflow_task_members t (line_member line)))
task line t token a b c d e f g h is e1 e2 e3 e4 e5 e6 e7 e8 plain_token plain_run plain_id =
    one g _ _ h (more f _ _ _ g (more e _ _ _ f (more d _ _ _ e (more c _ _ _ d (more b _ _ _ c (more a _ _ _ b e1 e2) e3) e4) e5) e6) e7) e8
    ∙ task-line line t token is plain_token plain_run plain_id
