use Rattle.std.proofs.Common.{rules, arith, ◌≡◌, ◌∙◌, ◌<◌, ℕ, List, [], ◌∷◌, ◌++◌, ap, refl, sym, subst, length, append_assoc, append-nil}
use Rattle.std.proofs.lemmas.Grind.{common_steps}
use lib.ListN.{length-map}
use Rattle.matching.specs.declared.queues.QueuesPass.{QueuesPass}
use Rattle.matching.specs.AtClose.{IsEnd}
use Rattle.matching.specs.Queues.{known_by as known}
use Rattle.matching.specs.Named.{at, known_by, held_of, held_at, given_of, parts_at}
use Rattle.matching.specs.ToldHints.{taken_in}
use Rattle.matching.proofs.Ended.{AllTaken, taken_self, taken_more, taken_new, unused, ended}
use Rattle.matching.proofs.Lists.{comes_next, each_snoc}
use Rattle.matching.proofs.queues.Queues.close.Goals as goal

pub returns-in_default : goal.returns-in_default
returns-in_default c =
    let none : c.args.passes.items ≡ [] = first_of (search rules, grind (arith, common_steps)) in
    record { ended = λ slot below. subst (λ (ps : List QueuesPass). IsEnd (held_at (held_of c.args.self) slot) (given_of c.args.self) (parts_at ps slot)) (sym none) (unused _ _) }

pub loop-pass-init : goal.loop-pass-init
loop-pass-init c =
    let last = c.in-Some.last in let whole = c.in-Some.ensures.items in
    record {
      own = c.requires.own _ last (comes_next c.args.passes.items c.pop.new.self.items (last ∷ []) [] last whole refl);
      first = taken_self _ (known_by last);
      each = λ k p e. absurd (cc e);
      rest = whole ∙ ap (λ l. l ++ last ∷ []) (sym c.into_iter-pass-iterator.ensures.into_iter_gives.0);
    }

pub take_in-requires-clause-other : goal.take_in-requires-clause-other
take_in-requires-clause-other c =
    let inv = c.loop-pass.invariant in let last = c.in-Some.last in let pass = c.in-Some-pass.pass in
    c.requires.own _ pass (comes_next c.args.passes.items c.loop-pass.yielded (c.loop-pass.pass-iterator.rest.items ++ last ∷ []) (c.next.new.self.rest.items ++ last ∷ []) pass
    (inv.rest ∙ append_assoc c.loop-pass.yielded c.loop-pass.pass-iterator.rest.items (last ∷ [])) (ap (λ l. l ++ last ∷ []) c.in-Some-pass.ensures.steps.0))

pub loop-pass-preserved : goal.loop-pass-preserved
loop-pass-preserved c =
    let inv = c.loop-pass.invariant in let last = c.in-Some.last in let pass = c.in-Some-pass.pass in let n : ℕ = length c.args.self.queues.items in
    let new = known_by c.take_in.new.pass in
    let wide = inv.own.width in let long = length-map c.loop-pass.last.passes.items known in
    let is : (s : ℕ) → s < n → at new s ≡ taken_in (at (known_by c.loop-pass.last) s) (at (known_by pass) s) = λ s l. c.take_in.ensures.taken s (omega arith) in
    record {
      own = c.take_in.ensures.own;
      first = taken_more n (known_by c.loop-pass.last) new (known_by pass) (known_by last) is inv.first;
      each = each_snoc (λ k p. AllTaken n new (known_by p)) c.loop-pass.yielded _ pass refl (λ k p e. taken_more n (known_by c.loop-pass.last) new (known_by pass) (known_by p) is (inv.each k p e)) (taken_new n (known_by c.loop-pass.last) new (known_by pass) is);
      rest = inv.rest ∙ (ap (λ l. (c.loop-pass.yielded ++ l) ++ last ∷ []) c.in-Some-pass.ensures.steps.0 ∙ ap (λ l. l ++ last ∷ []) (sym (append_assoc c.loop-pass.yielded (pass ∷ []) c.next.new.self.rest.items)));
    }

pub returns : goal.returns
returns c =
    let inv = c.loop-pass.invariant in let last = c.in-Some.last in let n : ℕ = length c.args.self.queues.items in
    let none : c.loop-pass.pass-iterator.rest.items ≡ [] = first_of (search rules, grind (arith, common_steps)) in
    let all : c.args.passes.items ≡ c.loop-pass.yielded ++ last ∷ [] = inv.rest ∙ ap (λ l. l ++ last ∷ []) (ap (λ l. c.loop-pass.yielded ++ l) none ∙ append-nil c.loop-pass.yielded) in
    let each = each_snoc (λ k p. AllTaken n (known_by c.loop-pass.last) (known_by p)) c.loop-pass.yielded c.args.passes.items last all inv.each inv.first in
    let even = inv.own.even in let wide = inv.own.width in let long = length-map c.loop-pass.last.passes.items known in
    record {
      ended = λ slot l.
          let below : slot < n = subst (λ (k : ℕ). slot < k) (sym even) l in
          let w = c.look_at_all.ensures slot (omega arith) in
          ended c.args.self c.args.passes.items c.loop-pass.last slot w.0 below inv.own w.1 (λ k p e. each k p e slot below);
    }
