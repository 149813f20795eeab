use Rattle.std.proofs.Common.{arith, inr, sym, subst, ◌∙◌, ◌≡◌, ℕ, ◌+◌, ◌-◌, ◌≤◌}
use Rattle.crossbeam_queue.specs.Fifo.{Held}
use Rattle.crossbeam_queue.proofs.Stamps.{one_stamp}
use Rattle.matching.specs.declared.view.View.{View}
use Rattle.matching.specs.PassSteps.{Sees}
use Rattle.matching.specs.Rings.{HasLooked}
use Rattle.matching.proofs.After.{looked-more}
use Rattle.matching.proofs.line.Line.count.Goals as goal

pub returns-then-tail-clause-room : goal.returns-then-tail-clause-room
returns-then-tail-clause-room g c =
    let n : ℕ = c.args.self.now.cap in let first = c.tail-tail.ensures.1 in let mid = c.head_to_count-head.ensures.1 in let last = c.tail.ensures.1 in
    let t : ℕ = c.tail-tail.new.seat.me.0.at in let a : ℕ = c.head_to_count-head.new.seat.me.0.at in let z : ℕ = c.tail.new.seat.me.0.at in let h : ℕ = mid.3.0 in
    let same : z ≡ t = one_stamp _ _ c.args.self.now.sized.2 t z (sym last.1.1 ∙ c.if-tail.true ∙ first.1.1) in let up : t ≤ a = mid.2 in let on : a ≤ z = last.2 mid.1 in let le : h ≤ a = mid.3.2 in let near : a ≤ h + n = mid.3.3 in
    let r : ℕ = c.between.result in let is : r ≡ t - h = c.between.ensures h t mid.3.1 first.1.1 (omega arith) (omega arith) in omega arith

pub returns-then-tail-clause-counted : goal.returns-then-tail-clause-counted
returns-then-tail-clause-counted g c =
    let n : ℕ = c.args.self.now.cap in let first = c.tail-tail.ensures.1 in let mid = c.head_to_count-head.ensures.1 in let last = c.tail.ensures.1 in
    let t : ℕ = c.tail-tail.new.seat.me.0.at in let a : ℕ = c.head_to_count-head.new.seat.me.0.at in let z : ℕ = c.tail.new.seat.me.0.at in let h : ℕ = mid.3.0 in
    let same : z ≡ t = one_stamp _ _ c.args.self.now.sized.2 t z (sym last.1.1 ∙ c.if-tail.true ∙ first.1.1) in let up : t ≤ a = mid.2 in let on : a ≤ z = last.2 mid.1 in let le : h ≤ a = mid.3.2 in let near : a ≤ h + n = mid.3.3 in
    let r : ℕ = c.between.result in let is : r ≡ t - h = c.between.ensures h t mid.3.1 first.1.1 (omega arith) (omega arith) in let back : a - h ≡ r = omega arith in
    let w : View = c.head_to_count-head.new.seat.me.0.client in
    let seen : Held r (λ waiting. Sees c.tail-tail.new.seat.me.0.client waiting w) = subst (λ (k : ℕ). Held k (λ waiting. Sees c.tail-tail.new.seat.me.0.client waiting w)) back mid.3.4 in
    subst (λ (x : View). Held r (λ waiting. Sees c.args.seat.now.me.0.client waiting x)) (sym last.0.0)
    (looked-more c.args.seat.now.me.0.client c.tail-tail.new.seat.me.0.client w r (subst (HasLooked c.args.seat.now.me.0.client) (sym first.0.0) c.loop.invariant.2) seen)

pub loop-preserved : goal.loop-preserved
loop-preserved g c =
    let first = c.tail-tail.ensures in let mid = c.head_to_count-head.ensures in let last = c.tail.ensures in let inv = c.loop.invariant in
    let w : View = c.head_to_count-head.new.seat.me.0.client in
    let more = looked-more c.args.seat.now.me.0.client c.tail-tail.new.seat.me.0.client w _ (subst (HasLooked c.args.seat.now.me.0.client) (sym first.1.0.0) inv.2) mid.1.3.4 in (
      last.0.0 ∙ (mid.0.0 ∙ (first.0.0 ∙ inv.0)),
      last.0.1 ∙ (mid.0.1 ∙ (first.0.1 ∙ inv.1)),
      subst (HasLooked c.args.seat.now.me.0.client) (sym last.1.0.0) (inr (more.0, more.2)),
      last.0.2 ∙ (mid.0.2 ∙ (first.0.2 ∙ inv.3)),
    )
