use Rattle.std.proofs.Common.{arith}
use Rattle.gate.proofs.Surveys.{surveys_for}
use Rattle.gate.proofs.gate.Gate.survey.Goals as goal

pub load-requires : goal.load-requires
load-requires g c = let b = c.args.pass.now in (
  c.requires.0,
  (let w = c.slot_count.ensures in let even = c.args.self.now.even in omega (arith, w, even)),
  surveys_for g.O.Object.grounds g.O.Object.after (λ x. g.O.Object.opening x.0) (λ x. x.1) _ _ _ _ _ b.seat.me c.slot_count.ensures b.sits.0,
)
