use Rattle.std.proofs.Common.{arith, sym, ap, ◌∙◌, ◌≡◌}
use Rattle.crossbeam_queue.specs.Stamps.{stamp}
use Rattle.crossbeam_queue.proofs.Stamps.{one_stamp, apart}
use Rattle.matching.proofs.line.Line.between.Goals as goal

pub returns-then-first-end : goal.returns-then-first-end
returns-then-first-end c = λ h t a b le near. let k = c.if-first-end.true in apart _ _ c.args.self.now.sized.2 h t _ _ le near (c.index_of-first.ensures.value h a).0 (c.index_of-end.ensures.value t b).0 _ (λ x y e. omega arith) (λ x y e. omega arith)

pub returns-then-first-end-2 : goal.returns-then-first-end-2
returns-then-first-end-2 c = λ h t a b le near. let k = c.if-first-end-2.true in apart _ _ c.args.self.now.sized.2 h t _ _ le near (c.index_of-first.ensures.value h a).0 (c.index_of-end.ensures.value t b).0 _ (λ x y e. omega arith) (λ x y e. omega arith)

pub returns-then-tail-head : goal.returns-then-tail-head
returns-then-tail-head c = λ h t a b le near. let same = one_stamp _ _ c.args.self.now.sized.2 h t (sym b ∙ c.if-tail-head.true ∙ a) in omega arith

pub returns-else-tail-head : goal.returns-else-tail-head
returns-else-tail-head c = λ h t a b le near. let k = c.if-first-end.false in let l = c.if-first-end-2.false in let other : ¬ (t ≡ h) = λ e. c.if-tail-head.false (b ∙ ap (stamp _) e ∙ sym a) in apart _ _ c.args.self.now.sized.2 h t _ _ le near (c.index_of-first.ensures.value h a).0 (c.index_of-end.ensures.value t b).0 _ (λ x y e. omega arith) (λ x y e. omega arith)
