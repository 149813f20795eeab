use Rattle.std.proofs.Common.{◌≡◌, ◌∙◌, sym}
use Rattle.std.proofs.lemmas.Bool.{eqb-true}
use Rattle.gate.proofs.Moments.{moment-of}
use Rattle.gate.proofs.gate.Gate.has_seen_all.Goals as goal

pub returns-clause-moment : goal.returns-clause-moment
returns-clause-moment g c = λ yes.
    let all : c.survey-all.result ≡ c.args.steps = eqb-true c.survey-all.result c.args.steps yes in
    moment-of g.O.Object.grounds g.O.Object.after c.args.pass.now.seat.me.0 c.survey-all.result c.survey-all.ensures.run c.requires.paired (c.requires.steps ∙ sym all)
