use Rattle.std.proofs.Common.{◌∷◌, [], Some, Err, refl, sym, subst}
use Rattle.script.proofs.Steps.{on_any_err}
use Rattle.lanes.specs.declared.place.Place.TheVariants.{InLane, Refused}
use Rattle.lanes.specs.Lanes.{Took}
use Rattle.lanes.specs.Numbers.{IsNext, IsNextIn}
use Rattle.lanes.specs.Printed.{Begun, BegunIn}
use Rattle.lanes.proofs.PrintLemmas.{begun-in, begun-one}
use Rattle.lanes.proofs.print.print_one.Goals as goal

pub returns-in_err-print_refusal-in-Refused-clause-begun : goal.returns-in_err-print_refusal-in-Refused-clause-begun
returns-in_err-print_refusal-in-Refused-clause-begun g c =
    let refusal = c.in-Refused.refusal in
    on_any_err c.from_residual.result _
    (λ rss left next. subst (λ p. Begun c.args.number (p ∷ []) rss (g.W.Write.contents c.args.writer.now.inner) (g.W.Write.contents c.print_refusal.new.writer.inner)) (sym c.in-Refused.is)
    (begun-one c.args.number (Refused refusal) (Some (Err refusal)) rss rss _ _ (refl, refl) c.in_err-print_refusal-in-Refused.ensures.begun))

pub returns-in_err-refused-in-InLane-clause-begun : goal.returns-in_err-refused-in-InLane-clause-begun
returns-in_err-refused-in-InLane-clause-begun g c =
    let lane = c.in-InLane.lane in
    on_any_err c.from_residual-in_err-refused-in-InLane.result _
    (λ rss left next.
    let own : IsNextIn c.from.result c.args.number rss = subst (λ k. IsNextIn k c.args.number rss) (sym c.from.ensures) (subst (λ p. IsNext p c.args.number rss) c.in-InLane.is next) in
    let begun : BegunIn c.args.number lane rss (g.W.Write.contents c.args.writer.now.inner) (g.W.Write.contents c.print_in.new.writer.inner) =
    subst (λ n. BegunIn c.args.number n rss (g.W.Write.contents c.args.writer.now.inner) (g.W.Write.contents c.print_in.new.writer.inner)) c.from.ensures (c.in_err-refused-in-InLane.ensures.begun rss left own) in
    subst (λ p. Begun c.args.number (p ∷ []) rss (g.W.Write.contents c.args.writer.now.inner) (g.W.Write.contents c.print_in.new.writer.inner)) (sym c.in-InLane.is)
    (begun-in c.args.number lane rss _ _ begun))

pub returns-in_ok-print_refusal-in-Refused-clause-printed : goal.returns-in_ok-print_refusal-in-Refused-clause-printed
returns-in_ok-print_refusal-in-Refused-clause-printed g c = λ rss left next. record {
  reply = Some (Err c.in-Refused.refusal);
  left = rss;
  took = subst (λ p. Took rss p (Some (Err c.in-Refused.refusal)) rss) (sym c.in-Refused.is) (refl, refl);
  kept = left;
  written = c.in_ok-print_refusal-in-Refused.ensures.printed;
  refused_is = refl;
}

pub returns-in_ok-refused-in-InLane-clause-printed : goal.returns-in_ok-refused-in-InLane-clause-printed
returns-in_ok-refused-in-InLane-clause-printed g c = λ rss left next.
    let own : IsNextIn c.from.result c.args.number rss = subst (λ k. IsNextIn k c.args.number rss) (sym c.from.ensures) (subst (λ p. IsNext p c.args.number rss) c.in-InLane.is next) in
    let p = c.in_ok-refused-in-InLane.ensures.printed rss left own in
    record {
      reply = Some p.reply;
      left = p.left;
      took = subst (λ pl. Took rss pl (Some p.reply) p.left) (sym c.in-InLane.is)
          (subst (λ n. Took rss (InLane n) (Some p.reply) p.left) c.from.ensures p.took);
      kept = p.kept;
      written = p.written;
      refused_is = p.refused_is;
    }
