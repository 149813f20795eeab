-- of one workflow ID the older run's retention ends first
use Rattle.std.proofs.Common.{◌≡◌, ℕ, zero, suc, ◌+◌, ◌-◌, ◌<◌, ◌≤◌, inl, inr, Bool, true, false, cond, List, [], ◌∷◌, refl, sym, ap, ◌∙◌, subst, arith, Some}
use Rattle.std.proofs.lemmas.Bool.Decides.{nat_tests}
use Rattle.std.specs.Prelude.{find, flat_map, map, nat_lt, slice_get, slice_index_or, ◌==◌, ◌&&◌, ◌||◌}
use Rattle.std.specs.List.{AllByRecursion, enumerate_from}
use Rattle.wf_event.specs.declared.event.Event.{Event}
use Rattle.service_model.specs.Aging.{AreAged, AreOfOne, IsOldestRun}
use Rattle.service_model.specs.Deadlines.{Due, dues, is_closing_event, retention_dues}
use Rattle.service_model.specs.RunState.{RunState, is_open, is_there, no_run}
use Rattle.service_model.specs.TimerTurns.{RunDue, all_dues, due_now, is_before, is_retention, least}
use Rattle.timeouts.specs.Firsts.{IsOfRun, of_run}
use Rattle.timeouts.specs.Slots.{IsOneOf}
use Rattle.timeouts.proofs.ClassLemmas.{IsEndOf, due-closed, open_dues, retention_due}
use Rattle.timeouts.proofs.FirstLemmas.{due-of-run, not-later}
use Rattle.timeouts.proofs.LeastLemmas.{least-fires, one-left, one-right}

-- the run of the smaller ordinal that closed no later fires first, whatever the retention
pub older-before : (m n retention : ℕ) (a b : Event) → m < n → a.at ≤ b.at → is_before (retention_due retention m a) (retention_due retention n b) ≡ true
older-before m n retention a b older no_later =
    by_tests (nat_lt (a.at + retention) (b.at + retention)) refl ((a.at + retention) == (b.at + retention)) refl (nat_lt m n) refl
  where
    by_tests : (p : Bool) → nat_lt (a.at + retention) (b.at + retention) ≡ p → (q : Bool) → ((a.at + retention) == (b.at + retention)) ≡ q → (r : Bool) → nat_lt m n ≡ r
        → (p || (q && (r || ((m == n) && (false || (true && nat_lt a.id b.id)))))) ≡ true
    by_tests true e q f r g = refl
    by_tests false e true f true g = refl
    by_tests false e true f false g = absurd (grind (g, older, arith, nat_tests))
    by_tests false e false f r g = absurd (grind (e, f, no_later, arith, nat_tests))

-- the deadline of a run that has closed
own-due : (retention : ℕ) (s : RunState) (e : Event) → is_there s ≡ true → is_open s ≡ false → find is_closing_event s.shown ≡ Some e → (retention == 0) ≡ false → dues retention s ≡ (retention_due retention 0 e).at ∷ []
unfolding dues
own-due retention s e there over closing some =
    ap (λ b. cond b (open_dues s) (cond (is_there s) (retention_dues retention (find is_closing_event s.shown)) [])) over
    ∙ ap (λ b. cond b (retention_dues retention (find is_closing_event s.shown)) []) there
    ∙ ap (retention_dues retention) closing
    ∙ ap (λ b. cond b [] ((retention_due retention 0 e).at ∷ [])) some

same-some : {A : Type 0} (x y : A) → Some x ≡ Some y → x ≡ y
same-some x y e = cc

-- it is among those of all runs
pub retention-among : (retention k : ℕ) (states : List RunState) (m : ℕ) (s : RunState) (e : Event) → slice_get states m ≡ Some s → is_there s ≡ true → is_open s ≡ false → find is_closing_event s.shown ≡ Some e → (retention == 0) ≡ false
    → IsOneOf (retention_due retention (k + m) e) (flat_map (λ (p : ℕ × RunState). map (λ (d : Due). record { run = p.0; at = d }) (dues retention p.1)) (enumerate_from k states))
retention-among retention k [] m s e at there over closing some = absurd (cc at)
retention-among retention k (r ∷ states) zero s e at there over closing some =
    let is : r ≡ s = same-some r s at in
    let own : dues retention r ≡ (retention_due retention 0 e).at ∷ [] = ap (dues retention) is ∙ own-due retention s e there over closing some in
    let here : k ≡ k + 0 = omega arith in
    let D : ℕ → RunDue = λ n. retention_due retention n e in
    one-left (D (k + 0)) (of_run k (dues retention r)) _
    (subst (λ n. IsOneOf (D n) (of_run k (dues retention r))) here (subst (λ l. IsOneOf (D k) (of_run k l)) (sym own) (inl refl)))
retention-among retention k (r ∷ states) (suc m) s e at there over closing some =
    let next : k + 1 + m ≡ k + suc m = omega arith in
    let rest = flat_map (λ (p : ℕ × RunState). map (λ (d : Due). record { run = p.0; at = d }) (dues retention p.1)) (enumerate_from (k + 1) states) in
    one-right (retention_due retention (k + suc m) e) (of_run k (dues retention r)) rest
    (subst (λ n. IsOneOf (retention_due retention n e) rest) next (retention-among retention (k + 1) states m s e at there over closing some))

at-place : (states : List RunState) (n : ℕ) (s : RunState) → slice_get states n ≡ Some s → slice_index_or states n no_run ≡ s
at-place [] n s is = absurd (cc is)
at-place (r ∷ states) zero s is = same-some r s is
at-place (r ∷ states) (suc n) s is = at-place states n s is

at-member : (d e : RunDue) (ds : List RunDue) → IsOneOf e ds → AllByRecursion (λ x. is_before x d ≡ false) ds → is_before e d ≡ false
at-member d e [] one all = absurd one
at-member d e (x ∷ ds) (inl is) all = subst (λ y. is_before y d ≡ false) (sym is) all.0
at-member d e (x ∷ ds) (inr rest) all = at-member d e ds rest all.1

-- where the retention of a run is over, no older run of its workflow ID is there: its retention would have been over before
pub oldest-goes : (retention last moment : ℕ) (states : List RunState) (d : RunDue) → AreAged last states → ((m n : ℕ) (s t : RunState) → AreOfOne states m n s t → is_open s ≡ false)
    → due_now moment (least (all_dues retention states)) ≡ Some d → is_retention d.at.class ≡ true → IsOldestRun states (d.run - 1)
oldest-goes retention last moment states d aged one fires class = record { first = none_before }
  where
    none_before : (m : ℕ) (s t : RunState) → AreOfOne states m (d.run - 1) s t → ⊥
    none_before m s t pair =
        let its : IsOfRun retention d states = due-of-run retention states moment d fires in
        let at_t : slice_index_or states (d.run - 1) no_run ≡ t = at-place states (d.run - 1) t pair.at_n in
        let end : IsEndOf retention d.run t d = due-closed retention t d.run d class (subst (λ r. IsOneOf d (of_run d.run (dues retention r))) at_t its.its) in
        let over : is_open s ≡ false = one m (d.run - 1) s t pair in
        let closed = aged.over m s pair.at_m pair.is_s over in
        let all = (least-fires (all_dues retention states) d (not-later moment (least (all_dues retention states)) d fires)).1 in
        let among = retention-among retention 1 states m s closed.event pair.at_m pair.is_s over closed.closing end.some in
        let later : is_before (retention_due retention (1 + m) closed.event) d ≡ false = at-member d _ (all_dues retention states) among all in
        let less : 1 + m < d.run = (let o = pair.older in let f = its.from in omega (arith, o, f)) in
        let first : is_before (retention_due retention (1 + m) closed.event) (retention_due retention d.run end.event) ≡ true =
        older-before (1 + m) d.run retention closed.event end.event less (aged.in_order m (d.run - 1) s t pair end.over closed.event end.event closed.closing end.closing) in
        let clash : false ≡ true = sym later ∙ ap (is_before (retention_due retention (1 + m) closed.event)) end.is ∙ first in
        cc clash
