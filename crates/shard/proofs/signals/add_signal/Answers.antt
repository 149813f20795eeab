use Rattle.std.proofs.Common.{◌≡◌, ◌∙◌, sym, ap, subst, List, [], ◌∷◌, cond, false, true, IfOk}
use Rattle.std.specs.Option.{option_map_or}
use Rattle.service_model_types.specs.declared.answer.Answer.TheVariants.{Repeated, RepeatedRun, Signaled, SignaledRun}
use Rattle.service_model_types.specs.declared.journal.Fact.{Fact}
use Rattle.service_model.specs.Outcome.{Outcome, outside, adds, answered}
use Rattle.service_model.specs.Signals.{was_signaled, signal_fact}
use Rattle.mutable_state.specs.Steps.{FitStep}
use Rattle.shard_store.specs.ShardView.{ordinal_of, run_in, runs_at}
use Rattle.shard_store.specs.Fitting.{FitsStep}
use Rattle.shard_steps.proofs.StartLemmas.{signal-fits}
use Rattle.shard.proofs.StartLemmas.{fits-answered}
use Rattle.shard.proofs.signals.add_signal.Goals as goal

pub add_facts-requires-clause-fits : goal.add_facts-requires-clause-fits
add_facts-requires-clause-fits g c =
    let R = runs_at c.args.store.now c.args.moment in
    let request = c.args.request_id.now in
    let s = run_in c.args.store.now c.args.index in
    let fact = signal_fact request c.args.name.now c.args.input.now in
    let there : s ≡ c.run.result.now.state =
    sym c.run.ensures in
    let again : s ≡ c.run-2.result.now.state =
    sym c.run-2.ensures in
    let first : was_signaled s.signal_requests request ≡ false = ap (λ x. was_signaled x.signal_requests request) there ∙ sym c.was_signaled.ensures ∙ c.if-was_signaled.false in
    let facts : c.in_ok-facts.facts ≡ outside s (fact ∷ []) = c.in_ok-facts.ensures ∙ ap (λ x. outside x (fact ∷ [])) (sym again) in
    subst (λ (l : List Fact). FitStep c.args.moment s l) (sym facts) (signal-fits c.args.moment s request c.args.name.now c.args.input.now c.requires.open first)

pub returns-clause-plan : goal.returns-clause-plan
returns-clause-plan g c =
    let R = runs_at c.args.store.now c.args.moment in
    let request = c.args.request_id.now in
    let s = run_in c.args.store.now c.args.index in
    let fact = signal_fact request c.args.name.now c.args.input.now in
    let there : s ≡ c.run.result.now.state =
    sym c.run.ensures in
    let again : s ≡ c.run-2.result.now.state =
    sym c.run-2.ensures in
    let first : was_signaled s.signal_requests request ≡ false = ap (λ x. was_signaled x.signal_requests request) there ∙ sym c.was_signaled.ensures ∙ c.if-was_signaled.false in
    let facts : c.in_ok-facts.facts ≡ outside s (fact ∷ []) = c.in_ok-facts.ensures ∙ ap (λ x. outside x (fact ∷ [])) (sym again) in
    let answer = option_map_or SignaledRun c.args.named Signaled in
    let P : Outcome → Type 0 = λ o. IfOk c.add_facts.result (λ plan. FitsStep c.add_facts.new.store plan c.args.moment o) in
    subst P (ap (adds (ordinal_of c.args.index) c.in_ok-facts.facts) c.first_answer.ensures ∙ ap (λ l. adds (ordinal_of c.args.index) l answer) facts ∙ sym (ap (λ b. cond b (answered (option_map_or RepeatedRun c.args.named Repeated)) (adds (ordinal_of c.args.index) (outside s (fact ∷ [])) answer)) first)) c.add_facts.ensures.plan

pub returns-then-was_signaled-clause-plan : goal.returns-then-was_signaled-clause-plan
returns-then-was_signaled-clause-plan g c =
    let v = c.args.store.now in
    let request = c.args.request_id.now in
    let s = run_in v c.args.index in
    let fact = signal_fact request c.args.name.now c.args.input.now in
    let first = option_map_or SignaledRun c.args.named Signaled in
    let later = option_map_or RepeatedRun c.args.named Repeated in
    let again : was_signaled s.signal_requests request ≡ true = ap (λ x. was_signaled x.signal_requests request) (sym c.run.ensures) ∙ sym c.was_signaled.ensures ∙ c.if-was_signaled.true in
    let P : Outcome → Type 0 = λ o. FitsStep {T = g.row.T.Denot} v c.answered.result c.args.moment o in
    subst P (ap answered c.later_answer.ensures ∙ sym (ap (λ b. cond b (answered later) (adds (ordinal_of c.args.index) (outside s (fact ∷ [])) first)) again)) (fits-answered {T = g.row.T.Denot} v c.args.moment c.later_answer.result c.answered.result c.answered.ensures)
