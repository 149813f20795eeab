use Rattle.std.proofs.Common.{rules, ℕ, sym, subst}
use Rattle.matching.specs.Named.{held_of, IsPassOf, IsFresh}
use Rattle.matching.proofs.Lists.{each_snoc}
use Rattle.matching.proofs.queues.Queues.all_passes.Goals as goal

pub loop-k-preserved : goal.loop-k-preserved
loop-k-preserved c =
    let inv = c.loop-k.invariant in
    let x = c.args.self.now in
    record {
      makers = c.in_ok-pass.ensures.makers;
      count = (search rules, search rules);
      room = search rules;
      own = each_snoc (λ k p. IsPassOf p x) _ _ _ c.push_reserved.ensures.items inv.own c.in_ok-pass.ensures.own;
      fresh = each_snoc (λ k p. IsFresh c.args.passes c.args.shards x.capacity (held_of x) k p) _ _ _ c.push_reserved.ensures.items inv.fresh
          (subst (λ (n : ℕ). IsFresh c.args.passes c.args.shards x.capacity (held_of x) n c.in_ok-pass.pass) (sym inv.count.0) c.in_ok-pass.ensures.fresh);
    }
