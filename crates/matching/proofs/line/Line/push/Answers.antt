use Rattle.std.proofs.Common.{sym, subst, ap, ◌∙◌, ℕ, ◌+◌, ◌-◌, ◌≤◌, refl}
use Rattle.crossbeam_queue.specs.Stamps.{stamp}
use Rattle.crossbeam_queue.proofs.Stamps.{lap_back, lap_past}
use Rattle.crossbeam_queue.specs.Fifo.{Held}
use Rattle.matching.specs.PassSteps.{Sees}
use Rattle.matching.proofs.line.Line.push.Goals as goal

pub head_if_full-requires-clause-seen : goal.head_if_full-requires-clause-seen
head_if_full-requires-clause-seen g c = let at = c.loop.invariant.3.1 in let saw = c.stamp_at_tail-stamp.ensures.1 in let deep = lap_past _ _ c.args.self.now.sized.2 _ _ at c.if-tail-self.true in let back = (lap_back _ _ c.args.self.now.sized.2 _ _ at deep).1 in
    saw.3 deep (c.if-stamp-tail.true ∙ ap (λ (z : ℕ). z + 1) back)

pub returns-then-head_if_full-tail-clause-pushed : goal.returns-then-head_if_full-tail-clause-pushed
returns-then-head_if_full-tail-clause-pushed g c = let at = c.loop.invariant.3.1 in let saw = c.stamp_at_tail-stamp.ensures.1 in let deep = lap_past _ _ c.args.self.now.sized.2 _ _ at c.if-tail-self.true in let back = (lap_back _ _ c.args.self.now.sized.2 _ _ at deep).1 in
    let n : ℕ = c.args.self.now.cap in let same = saw.0.0 ∙ c.loop.invariant.2 in let w = c.head_if_full.new.seat.me.0.client in
    let saw_many = c.head_if_full.ensures.1.1 (subst (λ (z : ℕ). n ≤ z) (sym saw.1) deep, c.if-head_if_full-tail.true ∙ back ∙ ap (λ (z : ℕ). stamp n (z - n)) (sym saw.1)) in
    (refl, subst (λ v. Held n (λ waiting. Sees v waiting w)) same saw_many)

pub loop-preserved-then-stamp-tail : goal.loop-preserved-then-stamp-tail
loop-preserved-then-stamp-tail g c = let at = c.loop.invariant.3.1 in let saw = c.stamp_at_tail-stamp.ensures.1 in let deep = lap_past _ _ c.args.self.now.sized.2 _ _ at c.if-tail-self.true in let back = (lap_back _ _ c.args.self.now.sized.2 _ _ at deep).1 in
    let n : ℕ = c.args.self.now.cap in let looked = c.head_if_full.ensures in let last = c.tail-tail-then-stamp-tail.ensures in let inv = c.loop.invariant in let stamped = c.stamp_at_tail-stamp.ensures.0 in
    let still = looked.1.2 (λ full. c.if-head_if_full-tail.false (full.1 ∙ ap (λ (z : ℕ). stamp n (z - n)) saw.1 ∙ sym back)) in (
      last.0.0 ∙ (looked.0.0 ∙ (stamped.0 ∙ inv.0)),
      last.0.1 ∙ (looked.0.1 ∙ (stamped.1 ∙ inv.1)),
      last.1.0.0 ∙ (still ∙ (saw.0.0 ∙ inv.2)),
      last.1.1,
      last.0.2 ∙ (looked.0.2 ∙ (stamped.2 ∙ inv.4)),
    )
