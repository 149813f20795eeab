-- what a deadline does that fires
use Rattle.std.proofs.Common.{◌≡◌, ℕ, ◌-◌, ◌∙◌, sym, ap, subst, arith, true, false, cond}
use Rattle.std.specs.Prelude.{Ok, Some}
use Rattle.wf_event_values.specs.Run.{Run}
use Rattle.service_model_types.specs.declared.answer.Answer.{Answer}
use Rattle.service_model_types.specs.declared.answer.Answer.TheVariants.{Fired}
use Rattle.service_model.specs.Outcome.{Outcome, adds, run_at, run_id, takes_away}
use Rattle.service_model.specs.RunState.{is_open, is_there}
use Rattle.service_model.specs.TimerTurns.{all_dues, due_now, fire, fired, fire_due, is_retention, least}
use Rattle.service_model.specs.Aging.{IsOldestRun}
use Rattle.timeouts.specs.Slots.{run_due}
use Rattle.timeouts.specs.declared.due.Due.{Due}
use Rattle.timeouts.proofs.AgeLemmas.{oldest-goes}
use Rattle.timeouts.proofs.ClassLemmas.{due-closed, due-there}
use Rattle.timeouts.proofs.FirstLemmas.{due-of-run}
use Rattle.shard_issued.specs.Outstanding.{IsCaughtUp}
use Rattle.shard_store.specs.Fitting.{FitsStep, state_at, taking}
use Rattle.shard_store.specs.ShardView.{ShardView, ordinal_of, runs_at, states}
use Rattle.shard_store.specs.declared.plan.Plan.{Plan}
use Rattle.shard_store.proofs.PlanLemmas.{fits-taking}

-- the answer to a deadline, by the run's id
abbrev pub fired_as : Due → Run → Answer
fired_as d id = Fired (record { class = d.class; due = d.due; event = d.event; run = id })

-- a plan that takes the run at a place away, where the first deadline is the end of its retention
pub taking-fits : {T : Type 0} (v : ShardView) (at : ℕ) (d : Due) (i : ℕ) (id : Run) → IsCaughtUp v.changed → due_now at (least (all_dues v.setup.retention (states v.runs))) ≡ Some (run_due d) → is_retention d.class ≡ true
    → ordinal_of i ≡ d.run → id ≡ run_id v.setup (ordinal_of i) → FitsStep {T = T} v (record { moment = at; change = taking i; reply = Ok (fired_as d id) }) at (fire_due (runs_at v at) (Some (run_due d)))
taking-fits {T} v at d i id caught_up fires class place is =
    let R = runs_at v at in
    let x = run_due d in
    let runs = states v.runs in
    let retention = v.setup.retention in
    let its = due-of-run retention runs at x fires in
    let s = run_at R d.run in
    let before : d.run - 1 ≡ i = omega (arith, place) in
    let here : state_at runs i ≡ s = ap (state_at runs) (sym before) in
    let end = due-closed retention s d.run x class its.its in
    let begun : is_there s ≡ true = due-there retention s d.run x its.its in
    let is_so : takes_away (ordinal_of i) (fired_as d id) ≡ fire_due R (Some x) =
    ap (λ r. takes_away (ordinal_of i) (fired_as d r)) is ∙ ap (λ n. takes_away n (fired_as d (run_id v.setup n))) place
    ∙ sym (ap (λ b. cond b (takes_away d.run (fired R x)) (adds d.run (fire s at d.event d.class) (fired R x))) class) in
    let P : Outcome → Type 0 = λ o. FitsStep {T = T} v (record { moment = at; change = taking i; reply = Ok (fired_as d id) }) at o in
    subst P is_so (fits-taking {T = T} v at i (fired_as d id) (record {
      begun = ap is_there here ∙ begun;
      over = ap is_open here ∙ end.over;
      caught_up = caught_up;
      oldest = λ one aged. subst (IsOldestRun runs) before
          (oldest-goes retention v.last at runs x aged (λ m n a b pair. one.earlier m n a b pair.older pair.at_m pair.at_n pair.is_t pair.same) fires class);
    }))

-- every other deadline adds to its run
pub adding-fires : {T : Type 0} (v : ShardView) (plan : Plan T) (w : ShardView) (at : ℕ) (d : Due) → is_retention d.class ≡ false → FitsStep v plan at (adds d.run (fire (run_at (runs_at w at) d.run) at d.event d.class) (fired (runs_at w at) (run_due d)))
    → FitsStep v plan at (fire_due (runs_at w at) (Some (run_due d)))
adding-fires {T} v plan w at d class fits =
    let R = runs_at w at in
    let x = run_due d in
    let P : Outcome → Type 0 = λ o. FitsStep v plan at o in
    subst P (sym (ap (λ b. cond b (takes_away d.run (fired R x)) (adds d.run (fire (run_at R d.run) at d.event d.class) (fired R x))) class)) fits
