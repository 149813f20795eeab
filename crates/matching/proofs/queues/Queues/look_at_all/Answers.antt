use Rattle.std.proofs.Common.{rules, ◌≡◌, ◌∙◌, arith, ◌<◌, ◌≤◌, ℕ, List, ap, refl, sym, subst, length, Some, slice_get}
use Rattle.service_model_types.specs.declared.request.Hint.{Hint}
use Rattle.matching.specs.Rule.{IsLast}
use lib.ListN.{length-map}
use Rattle.matching.specs.Queues.{known_by as known}
use Rattle.matching.specs.Named.{at, known_by}
use Rattle.matching.proofs.Places.{found, at-map}
use Rattle.matching.proofs.Slots.{own_set, kept, next_too}
use Rattle.matching.proofs.queues.Queues.look_at_all.Goals as goal

pub loop-slot-preserved : goal.loop-slot-preserved
loop-slot-preserved c =
    let inv = c.loop-slot.invariant in let n = c.loop-slot.slot in let queues = c.args.self.now.queues.items in let ps = c.loop-slot.pass.passes.items in
    let below : n < length queues = search rules in
    let queue : slice_get queues n ≡ Some c.index.result.now = found queues n c.index.result.now below c.index.ensures in
    let one : slice_get ps n ≡ Some c.index_mut.result.now = found ps n c.index_mut.result.now (subst (λ (k : ℕ). n < k) (sym inv.own.width) below) c.index_mut.ensures.value in
    record {
      own = own_set c.args.self.now c.loop-slot.pass _ n c.index.result.now c.look_at_all.new.pass refl queue c.look_at_all.ensures.own inv.own;
      same = kept ps n c.index_mut.result.now c.look_at_all.new.pass one c.look_at_all.ensures.same ∙ inv.same;
      each = next_too (λ s. (waiting : List Hint) × IsLast (at (known_by c.args.pass.now) s) waiting) n inv.each
          (subst (λ v. (waiting : List Hint) × IsLast v waiting) (sym (at-map ps n c.index_mut.result.now one) ∙ ap (λ vs. at vs n) inv.same) c.look_at_all.ensures.all);
    }

pub returns : goal.returns
returns c s below =
    let inv = c.loop-slot.invariant in let wide = c.requires.width in let long = length-map c.args.pass.now.passes.items known in
    let end : length c.args.self.now.queues.items ≤ c.loop-slot.slot = search rules in inv.each s (omega arith)
