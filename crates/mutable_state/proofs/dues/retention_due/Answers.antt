use Rattle.std.proofs.Common.{◌≡◌, ◌∙◌, ap, sym, arith}
use Rattle.std.proofs.lemmas.Bool.Decides.{nat_tests}
use Rattle.std.specs.Prelude.{find}
use Rattle.std.specs.Option.{option_copied}
use Rattle.service_model.specs.Deadlines.{is_closing_event, retention_dues}
use Rattle.service_model.specs.TimerTurns.{least}
use Rattle.timeouts.specs.Firsts.{first_of}
use Rattle.mutable_state.proofs.DueLemmas.{kept-for-ever}
use Rattle.mutable_state.proofs.dues.retention_due.Goals as goal

pub returns-then-millis-eq0 : goal.returns-then-millis-eq0
returns-then-millis-eq0 c =
    let n = c.args.ordinal in
    let o = find is_closing_event c.args.events.now in
    let zero : c.args.retention ≡ 0 = (let v = c.millis.ensures.value in let t = c.if-millis-eq0.true in grind (v, t, arith, nat_tests)) in
    sym (ap (λ r. first_of n (retention_dues r o)) zero ∙ kept-for-ever n o)

pub returns-in_default : goal.returns-in_default
unfolding least
returns-in_default c =
    ap (λ o. first_of c.args.ordinal (retention_dues c.args.retention o)) (sym (ap (λ o. option_copied o) c.in_default.is) ∙ c.closing_event.ensures)

pub returns : goal.returns
returns c =
    c.due_after.ensures
    ∙ ap (λ o. first_of c.args.ordinal (retention_dues c.args.retention o)) (sym (ap (λ o. option_copied o) c.in-Some.is) ∙ c.closing_event.ensures)
