-- commands that are spelled with factors are read again, and their factors found
use Rattle.std.proofs.Common.{◌≡◌, ℕ, zero, suc, ◌+◌, ◌<◌, ◌^◌, List, [], ◌∷◌, ◌++◌, map, length, take, get_or, Bool, true, false, ◌&&◌, nat_lt, eqb, Option, Some, None, refl, sym, ap, ap₂, ◌∙◌, arith, codes, lt-ltb}
use Rattle.std.proofs.lemmas.Bool.{and_parts, eq-eqb, eqb-true, ltb-true}
use Rattle.std.specs.Prelude.{⊤, Result, Ok, Err, option_and_then}
use Rattle.std.specs.List.{AllByRecursion}
use Rattle.serde_json.specs.Data.{Data, number, unsigned, object}
use Rattle.serde_json.specs.Find.{get, as_number, as_u64}
use Rattle.serde_json.specs.View.{items_of}
use Rattle.wf_command.specs.declared.command.Command.{Command}
use Rattle.wf_command.specs.declared.command.Command.TheVariants as command
use Rattle.wf_command.specs.declared.command.ScheduleActivityTask.{ScheduleActivityTask}
use Rattle.wire_fields.specs.Steps.{◌>>=◌, for_each}
use Rattle.wire_requests.specs.Commands.{command_of}
use Rattle.wire_requests.specs.RetryPolicies.{counts_as}
use Rattle.wire_record_rows.specs.Plain.{ArePlain, HaveUtf8}
use Rattle.wire_record_rows.proofs.RowLemmas.{found}
use Rattle.wire_record_commands.specs.Trees.{activity_rows, policy_rows, command_tree, command_rows}
use Rattle.wire_record_commands.specs.Limits.{IsCommand}
use Rattle.wire_record_commands.specs.Older.{CountsFor, IsOlder, AreOlder, counts_for, number_or_zero, factor_under, factor_in, first_or_zero, behind, all_count, older_trees}
use Rattle.wire_record_commands.proofs.ValuesBack.{then}
use Rattle.wire_record_commands.proofs.CommandsBack.{command_back, command_plain}
use Rattle.wire_record_commands.proofs.TextsUtf8.{command_utf8}

-- ---- the factor of a command

factor_back : (f : ℕ) (c : ScheduleActivityTask) → factor_in (command_tree (Some f) (command.ScheduleActivityTask c)) ≡ f
unfolding factor_in command_tree activity_rows policy_rows
factor_back f c =
    ap factor_under (found (codes "retry") (activity_rows (Some f) c) refl)
    ∙ ap (λ o. number_or_zero (option_and_then as_u64 (option_and_then as_number o))) (found (codes "factor") (policy_rows (Some f) c.retry) refl)

same_tree : (c : Command) (f : ℕ) → command_tree (Some (factor_in (command_tree (Some f) c))) c ≡ command_tree (Some f) c
unfolding command_tree
same_tree (command.ScheduleActivityTask c) f = ap (λ n. command_tree (Some n) (command.ScheduleActivityTask c)) (factor_back f c)
same_tree (command.RequestCancelActivityTask n) f = refl
same_tree (command.StartTimer c) f = refl
same_tree (command.CancelTimer i) f = refl
same_tree (command.RecordMarker c) f = refl
same_tree (command.CompleteWorkflowExecution t) f = refl
same_tree (command.FailWorkflowExecution t) f = refl
same_tree (command.CancelWorkflowExecution t) f = refl
same_tree (command.ContinueAsNewWorkflowExecution c) f = refl
same_tree (command.StartChildWorkflowExecution c) f = refl
same_tree (command.SignalExternalWorkflowExecution c) f = refl
same_tree (command.RequestCancelExternalWorkflowExecution c) f = refl

tested : (c : Command) (f : ℕ) → CountsFor c f → counts_for c f ≡ true
tested (command.ScheduleActivityTask c) f h = rw (lt-ltb f (2 ^ 64) h.0) (eq-eqb (counts_as f) c.retry.coefficient h.1)
tested (command.RequestCancelActivityTask n) f h = refl
tested (command.StartTimer c) f h = refl
tested (command.CancelTimer i) f h = refl
tested (command.RecordMarker c) f h = refl
tested (command.CompleteWorkflowExecution t) f h = refl
tested (command.FailWorkflowExecution t) f h = refl
tested (command.CancelWorkflowExecution t) f h = refl
tested (command.ContinueAsNewWorkflowExecution c) f h = refl
tested (command.StartChildWorkflowExecution c) f h = refl
tested (command.SignalExternalWorkflowExecution c) f h = refl
tested (command.RequestCancelExternalWorkflowExecution c) f h = refl

counted : (c : Command) (f : ℕ) → CountsFor c f → counts_for c (factor_in (command_tree (Some f) c)) ≡ true
counted (command.ScheduleActivityTask c) f h = ap (counts_for (command.ScheduleActivityTask c)) (factor_back f c) ∙ tested (command.ScheduleActivityTask c) f h
counted (command.RequestCancelActivityTask n) f h = refl
counted (command.StartTimer c) f h = refl
counted (command.CancelTimer i) f h = refl
counted (command.RecordMarker c) f h = refl
counted (command.CompleteWorkflowExecution t) f h = refl
counted (command.FailWorkflowExecution t) f h = refl
counted (command.CancelWorkflowExecution t) f h = refl
counted (command.ContinueAsNewWorkflowExecution c) f h = refl
counted (command.StartChildWorkflowExecution c) f h = refl
counted (command.SignalExternalWorkflowExecution c) f h = refl
counted (command.RequestCancelExternalWorkflowExecution c) f h = refl

counts : (c : Command) (f : ℕ) → counts_for c f ≡ true → CountsFor c f
counts (command.ScheduleActivityTask c) f e = let p = and_parts (nat_lt f (2 ^ 64)) (eqb (counts_as f) c.retry.coefficient) e in (ltb-true f (2 ^ 64) p.0, eqb-true (counts_as f) c.retry.coefficient p.1)
counts (command.RequestCancelActivityTask n) f e = tt
counts (command.StartTimer c) f e = tt
counts (command.CancelTimer i) f e = tt
counts (command.RecordMarker c) f e = tt
counts (command.CompleteWorkflowExecution t) f e = tt
counts (command.FailWorkflowExecution t) f e = tt
counts (command.CancelWorkflowExecution t) f e = tt
counts (command.ContinueAsNewWorkflowExecution c) f e = tt
counts (command.StartChildWorkflowExecution c) f e = tt
counts (command.SignalExternalWorkflowExecution c) f e = tt
counts (command.RequestCancelExternalWorkflowExecution c) f e = tt

-- ---- those of lists

pub older_of : (fs : List ℕ) (cs : List Command) → all_count fs cs ≡ true → AreOlder cs (older_trees fs cs)
older_of fs [] e = tt
older_of fs (c ∷ cs) e =
    let p = and_parts (counts_for c (first_or_zero fs)) (all_count (behind fs) cs) e in
    ((first_or_zero fs, (counts c (first_or_zero fs) p.0, refl)), older_of (behind fs) cs p.1)

pub older_again : (cs : List Command) (ds : List Data) → AreOlder cs ds → older_trees (map factor_in ds) cs ≡ ds
older_again [] [] h = refl
older_again [] (d ∷ ds) h = absurd h
older_again (c ∷ cs) [] h = absurd h
older_again (c ∷ cs) (d ∷ ds) h =
    let is : d ≡ command_tree (Some h.0.0) c = h.0.1.1 in
    ap₂ (λ (x : Data) (xs : List Data). x ∷ xs) (ap (λ (x : Data). command_tree (Some (factor_in x)) c) is ∙ same_tree c h.0.0 ∙ sym is) (older_again cs ds h.1)

pub older_counts : (cs : List Command) (ds : List Data) → AreOlder cs ds → all_count (map factor_in ds) cs ≡ true
older_counts [] [] h = refl
older_counts [] (d ∷ ds) h = absurd h
older_counts (c ∷ cs) [] h = absurd h
older_counts (c ∷ cs) (d ∷ ds) h =
    let is : d ≡ command_tree (Some h.0.0) c = h.0.1.1 in
    ap₂ (λ (x y : Bool). x && y) (ap (λ (x : Data). counts_for c (factor_in x)) is ∙ counted c h.0.0 h.0.1.0) (older_counts cs ds h.1)

pub older_read : (cs : List Command) (ds : List Data) → AreOlder cs ds → AllByRecursion IsCommand cs → for_each command_of ds ≡ Ok cs
older_read [] [] h k = refl
older_read [] (d ∷ ds) h k = absurd h
older_read (c ∷ cs) [] h k = absurd h
older_read (c ∷ cs) (d ∷ ds) h k = then _ (ap command_of h.0.1.1 ∙ command_back (Some h.0.0) c h.0.1.0 k.0) (then _ (older_read cs ds h.1 k.1) refl)

pub older_plain : (k : ℕ) (cs : List Command) (ds : List Data) → AreOlder cs ds → AllByRecursion IsCommand cs → ArePlain (suc (suc (suc k))) (items_of ds)
older_plain n [] [] h k = tt
older_plain n [] (d ∷ ds) h k = absurd h
older_plain n (c ∷ cs) [] h k = absurd h
older_plain n (c ∷ cs) (d ∷ ds) h k = (rw h.0.1.1 (command_plain n (Some h.0.0) c h.0.1.0 k.0), older_plain n cs ds h.1 k.1)

pub older_utf8 : (cs : List Command) (ds : List Data) → AreOlder cs ds → AllByRecursion IsCommand cs → HaveUtf8 (items_of ds)
older_utf8 [] [] h k = tt
older_utf8 [] (d ∷ ds) h k = absurd h
older_utf8 (c ∷ cs) [] h k = absurd h
older_utf8 (c ∷ cs) (d ∷ ds) h k = (rw h.0.1.1 (command_utf8 (Some h.0.0) c k.0), older_utf8 cs ds h.1 k.1)

-- ---- up to a place

pub trees_more : (fs : List ℕ) (cs : List Command) (i : ℕ) (c : Command) → i < length cs → older_trees fs (take (suc i) cs) ≡ older_trees fs (take i cs) ++ command_tree (Some (get_or fs i 0)) (get_or cs i c) ∷ []
trees_more fs [] i c h = absurd (omega (arith, h))
trees_more [] (x ∷ cs) zero c h = refl
trees_more (f ∷ fs) (x ∷ cs) zero c h = refl
trees_more [] (x ∷ cs) (suc i) c h = ap (λ t. command_tree (Some 0) x ∷ t) (trees_more [] cs i c (omega (arith, h)))
trees_more (f ∷ fs) (x ∷ cs) (suc i) c h = ap (λ t. command_tree (Some f) x ∷ t) (trees_more fs cs i c (omega (arith, h)))

and_true : (a : Bool) → (a && true) ≡ a
and_true true = refl
and_true false = refl

and_all : (a b c : Bool) → (a && (b && c)) ≡ ((a && b) && c)
and_all true b c = refl
and_all false b c = refl

pub count_more : (fs : List ℕ) (cs : List Command) (i : ℕ) (c : Command) → i < length cs → all_count fs (take (suc i) cs) ≡ (all_count fs (take i cs) && counts_for (get_or cs i c) (get_or fs i 0))
count_more fs [] i c h = absurd (omega (arith, h))
count_more [] (x ∷ cs) zero c h = and_true (counts_for x 0)
count_more (f ∷ fs) (x ∷ cs) zero c h = and_true (counts_for x f)
count_more [] (x ∷ cs) (suc i) c h = ap (λ t. counts_for x 0 && t) (count_more [] cs i c (omega (arith, h))) ∙ and_all (counts_for x 0) (all_count [] (take i cs)) (counts_for (get_or cs i c) 0)
count_more (f ∷ fs) (x ∷ cs) (suc i) c h = ap (λ t. counts_for x f && t) (count_more fs cs i c (omega (arith, h))) ∙ and_all (counts_for x f) (all_count fs (take i cs)) (counts_for (get_or cs i c) (get_or fs i 0))

pub trees_next : (fs : List ℕ) (cs : List Command) (i : ℕ) (c : Command) → i < length cs → older_trees fs (take (i + 1) cs) ≡ older_trees fs (take i cs) ++ command_tree (Some (get_or fs i 0)) (get_or cs i c) ∷ []
trees_next fs cs i c h = let e : i + 1 ≡ suc i = omega arith in ap (λ k. older_trees fs (take k cs)) e ∙ trees_more fs cs i c h

pub count_next : (fs : List ℕ) (cs : List Command) (i : ℕ) (c : Command) → i < length cs → all_count fs (take (i + 1) cs) ≡ (all_count fs (take i cs) && counts_for (get_or cs i c) (get_or fs i 0))
count_next fs cs i c h = let e : i + 1 ≡ suc i = omega arith in ap (λ k. all_count fs (take k cs)) e ∙ count_more fs cs i c h

factors_more : {V : Type 0} (view : V → Data) (vs : List V) (i : ℕ) (v : V) → i < length vs → map factor_in (map view (take (suc i) vs)) ≡ map factor_in (map view (take i vs)) ++ factor_in (view (get_or vs i v)) ∷ []
factors_more view [] i v h = absurd (omega (arith, h))
factors_more view (x ∷ vs) zero v h = refl
factors_more view (x ∷ vs) (suc i) v h = ap (λ t. factor_in (view x) ∷ t) (factors_more view vs i v (omega (arith, h)))

pub factors_next : {V : Type 0} (view : V → Data) (vs : List V) (i : ℕ) (v : V) → i < length vs → map factor_in (map view (take (i + 1) vs)) ≡ map factor_in (map view (take i vs)) ++ factor_in (view (get_or vs i v)) ∷ []
factors_next view vs i v h = let e : i + 1 ≡ suc i = omega arith in ap (λ k. map factor_in (map view (take k vs))) e ∙ factors_more view vs i v h
