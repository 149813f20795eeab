use Rattle.std.proofs.Common.{◌≡◌, ℕ, Bool, ◌≤◌, ◌∙◌, ◌&&◌, true, false, sym, ap, subst, arith, length, nat_le, List}
use Rattle.std.proofs.lemmas.Bool.Decides.{nat_tests}
use Rattle.std.specs.Prelude.{Some, is_some}
use Rattle.service_model_types.specs.declared.journal.Fact.{Fact}
use Rattle.service_model.specs.Outcome.{Outcome, adds, run_at, run_id}
use Rattle.service_model.specs.Deadlines.{dues}
use Rattle.service_model.specs.RunState.{RunState, is_there}
use Rattle.service_model.specs.TimerTurns.{fire, fire_due}
use Rattle.mutable_state.specs.Steps.{FitStep}
use Rattle.timeouts.specs.Firsts.{of_run}
use Rattle.timeouts.specs.Slots.{IsOneOf, run_due}
use Rattle.timeouts.proofs.ClassLemmas.{due-there}
use Rattle.timeouts.proofs.FirstLemmas.{due-of-run}
use Rattle.shard_store.specs.Fitting.{FitsStep}
use Rattle.shard_store.specs.ShardView.{ordinal_of, run_in, runs_at, states}
use Rattle.shard_store.specs.declared.plan.Plan.{Plan}
use Rattle.shard_steps.proofs.TurnLemmas.{fire-fits}
use Rattle.shard.proofs.TurnLemmas.{adding-fires, fired_as, taking-fits}
use Rattle.shard.proofs.turns.fire_first.Goals as goal

-- an ordinal in range is that of a run, where that run is there
has-run : (n count : ℕ) (b : Bool) → 1 ≤ n → n ≤ count → b ≡ true → (nat_le 1 n && nat_le n count && b) ≡ true
has-run n count b low high there = ap (λ t. nat_le 1 n && nat_le n count && t) there ∙ in-range
  where
    in-range : (nat_le 1 n && nat_le n count && true) ≡ true
    in-range = grind (arith, nat_tests)

pub unreachable-requires : goal.unreachable-requires
unreachable-requires g c =
    let n = c.args.due.run in
    let count = length (states c.args.store.now.runs) in
    let s = run_at (runs_at c.args.store.now c.args.moment) n in
    let retention = c.args.store.now.setup.retention in
    let its = due-of-run retention (states c.args.store.now.runs) c.args.moment (run_due c.args.due) c.requires.first in
    let there : is_there s ≡ true = due-there retention s n (run_due c.args.due) its.its in
    let clash : true ≡ false = sym (has-run n count (is_there s) its.from its.to there) ∙ c.place_of.ensures.some ∙ ap (λ o. is_some o) c.in_default.is in
    absurd (cc)

pub fired_facts-requires : goal.fired_facts-requires
fired_facts-requires g c =
    let d = c.args.due in
    let R = runs_at c.args.store.now c.args.moment in
    let retention = c.args.store.now.setup.retention in
    let its = due-of-run retention (states c.args.store.now.runs) c.args.moment (run_due d) c.requires.first in
    (retention, subst (λ s. IsOneOf (run_due d) (of_run d.run (dues retention s))) (sym (c.run.ensures ∙ ap (λ k. run_at R k) c.in-Some.ensures.found)) its.its)

pub add_facts-requires-clause-fits : goal.add_facts-requires-clause-fits
add_facts-requires-clause-fits g c =
    let d = c.args.due in
    let m = c.args.moment in
    let R = runs_at c.args.store.now c.args.moment in
    let retention = c.args.store.now.setup.retention in
    let its = due-of-run retention (states c.args.store.now.runs) m (run_due d) c.requires.first in
    let made : c.in_ok-facts.facts ≡ fire (run_in c.args.store.now c.in-Some.index) m d.event d.class = c.in_ok-facts.ensures ∙ ap (λ (x : RunState). fire x m d.event d.class) c.run.ensures in
    let P : ℕ → Type 0 = λ k. FitStep m (run_at R k) (fire (run_at R k) m d.event d.class) in
    subst (λ (l : List Fact). FitStep m (run_in c.args.store.now c.in-Some.index) l) (sym made) (subst P (sym c.in-Some.ensures.found) (fire-fits m retention (run_at R d.run) (run_due d) its.its))

pub returns-then-is_retention-clause-plan : goal.returns-then-is_retention-clause-plan
returns-then-is_retention-clause-plan g c =
    let d = c.args.due in
    let m = c.args.moment in
    let v = c.args.store.now in
    let P : Plan g.row.T.Denot → Type 0 = λ p. FitsStep v p m (fire_due (runs_at v m) (Some (run_due d))) in
    subst P (sym c.taking.ensures) (taking-fits {T = g.row.T.Denot} v m d c.in-Some.index c.run_id.result c.requires.caught_up c.requires.first (sym c.is_retention.ensures ∙ c.if-is_retention.true) c.in-Some.ensures.found c.run_id.ensures)

pub returns-clause-plan : goal.returns-clause-plan
returns-clause-plan g c =
    let d = c.args.due in
    let m = c.args.moment in
    let old = c.args.store.now in
    let R = runs_at old m in
    let n = ordinal_of c.in-Some.index in
    let made : c.in_ok-facts.facts ≡ fire (run_at R n) m d.event d.class = c.in_ok-facts.ensures ∙ ap (λ (x : RunState). fire x m d.event d.class) c.run.ensures in
    let P : Outcome → Type 0 = λ o. FitsStep {T = g.row.T.Denot} c.add_facts.new.store c.in_ok-plan.plan m o in
    adding-fires {T = g.row.T.Denot} c.add_facts.new.store c.in_ok-plan.plan old m d (sym c.is_retention.ensures ∙ c.if-is_retention.false)
    (subst P (ap (λ l. adds n l (fired_as d c.run_id.result)) made ∙ ap (λ r. adds n (fire (run_at R n) m d.event d.class) (fired_as d r)) c.run_id.ensures
    ∙ ap (λ k. adds k (fire (run_at R k) m d.event d.class) (fired_as d (run_id R.setup k))) c.in-Some.ensures.found) c.in_ok-plan.ensures.plan)
