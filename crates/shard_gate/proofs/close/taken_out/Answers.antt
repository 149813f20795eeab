use Rattle.std.proofs.Common.{ap, sym, ◌∙◌, arith, ◌++◌, ◌∷◌, []}
use Rattle.std.proofs.lemmas.List.{map-append}
use Rattle.shard_gate.proofs.CloseLemmas.{goes-on, one-left, one-more}
use Rattle.shard_gate.proofs.close.taken_out.Goals as goal

pub push_reserved-requires : goal.push_reserved-requires
push_reserved-requires g c =
    let inv = c.loop-slot.invariant in let left = one-left c.args.closed.items c.loop-slot.yielded _ _ _ inv.rest c.in-Some.ensures.steps.0 in
    omega (arith, inv.count, inv.wide, left)

pub loop-slot-preserved : goal.loop-slot-preserved
loop-slot-preserved g c =
    let inv = c.loop-slot.invariant in let slot = c.in-Some.slot in
    let a = c.push_reserved.ensures in let b = c.push_reserved-in-loop-slot.ensures in let d = c.push_reserved-in-loop-slot-2.ensures in
    let more = one-more c.loop-slot.yielded slot in
    record {
      records = a.items ∙ ap (λ l. l ++ slot.entries ∷ []) inv.records ∙ sym (map-append (λ x. x.entries) c.loop-slot.yielded (slot ∷ []));
      tickets = b.items ∙ ap (λ l. l ++ slot.tickets ∷ []) inv.tickets ∙ sym (map-append (λ x. x.tickets) c.loop-slot.yielded (slot ∷ []));
      shards = d.items ∙ ap (λ l. l ++ slot.object ∷ []) inv.shards ∙ sym (map-append (λ x. x.object) c.loop-slot.yielded (slot ∷ []));
      count = omega (arith, a.len, inv.count, more);
      count_tickets = omega (arith, b.len, inv.count_tickets, more);
      count_shards = omega (arith, d.len, inv.count_shards, more);
      wide = omega (arith, a.capacity, inv.wide);
      wide_tickets = omega (arith, b.capacity, inv.wide_tickets);
      wide_shards = omega (arith, d.capacity, inv.wide_shards);
      rest = goes-on c.args.closed.items c.loop-slot.yielded _ _ _ inv.rest c.in-Some.ensures.steps.0;
    }
