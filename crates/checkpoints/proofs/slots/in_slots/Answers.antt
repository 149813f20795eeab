use Rattle.std.proofs.Common.{◌≡◌, ◌++◌, ◌∷◌, [], ◌∙◌, length, ap, map, sym, refl, Some, rules}
use Rattle.std.proofs.lemmas.List.{append_assoc, map-append}
use Rattle.std.specs.Option.{option_to_list}
use Rattle.std.specs.Vec.Iter.{into_iter_items}
use Rattle.checkpoints.proofs.StartLemmas.{all-came, slots-all, slots-more}
use Rattle.checkpoints.proofs.slots.in_slots.Goals as goal

pub loop-restored-preserved : goal.loop-restored-preserved
loop-restored-preserved g c =
    let l = c.loop-restored in
    let h = l.invariant in
    let one = c.in-Some.restored in
    record {
      slots = slots-more l.yielded (l.yielded ++ one ∷ []) l.given.items c.push.new.self.items one (c.new.result, c.in-Some-next.record) h.slots
          c.new.ensures.shard (c.new.ensures.slot ∙ ap (λ n. Some n) (c.len-slot.ensures ∙ l.given.ok.0)) refl c.in_ok-push-in-Some-next.ensures.items;
      rest = h.rest ∙ ap (λ t. l.yielded ++ t) c.in-Some.ensures.steps.0 ∙ sym (append_assoc l.yielded (one ∷ []) c.next.new.self.rest.items);
      records = h.records ∙ ap (λ t. map (λ y. y.1) l.given.items ++ t) (c.next-in-loop-restored.ensures.items ∙ ap (λ o. option_to_list o ++ into_iter_items c.next-in-loop-restored.new.self) c.in-Some-next.is)
          ∙ sym (append_assoc (map (λ y. y.1) l.given.items) (c.in-Some-next.record ∷ []) (into_iter_items c.next-in-loop-restored.new.self))
          ∙ ap (λ t. t ++ into_iter_items c.next-in-loop-restored.new.self) (sym (map-append (λ y. y.1) l.given.items ((c.new.result, c.in-Some-next.record) ∷ [])))
          ∙ ap (λ t. map (λ y. y.1) t ++ into_iter_items c.next-in-loop-restored.new.self) (sym c.in_ok-push-in-Some-next.ensures.items);
      len = search rules;
    }

pub returns : goal.returns
returns g c =
    let l = c.loop-restored in
    let none : length l.restored-iterator.rest.items ≡ 0 = search rules in
    let all = all-came c.args.shards.items l.yielded l.restored-iterator.rest.items l.invariant.rest none in
    slots-all l.yielded c.args.shards.items c.args.records.items (into_iter_items l.records) l.given.items l.invariant.slots all l.invariant.records c.requires
