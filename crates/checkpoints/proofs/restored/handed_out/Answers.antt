use Rattle.std.proofs.Common.{◌≡◌, ◌++◌, ◌∷◌, [], ◌∙◌, length, ap, refl, rules, subst, sym}
use Rattle.std.proofs.lemmas.List.{append_assoc}
use Rattle.checkpoints.proofs.HandedLemmas.{AreSame, none-yet, one-more, same-restored, same-texts}
use Rattle.checkpoints.proofs.StartLemmas.{all-came}
use Rattle.checkpoints.proofs.restored.handed_out.Goals as goal

pub loop-restored-init : goal.loop-restored-init
loop-restored-init g c = record { same = none-yet (λ x. x.object) _ c.new-handed.ensures.items; rest = search rules }

pub loop-restored-preserved : goal.loop-restored-preserved
loop-restored-preserved g c =
    let l = c.loop-restored in
    let h = l.invariant in
    let one = c.in-Some.restored in
    record {
      same = subst (AreSame (λ x. x.object) (l.yielded ++ one ∷ [])) (sym c.in_ok-push.ensures.items)
          (one-more (λ x. x.object) l.yielded l.handed.items one (record { shard = record { object = one.shard }; counts = one.counts; text = one.text }) h.same refl refl refl);
      rest = h.rest ∙ ap (λ t. l.yielded ++ t) c.in-Some.ensures.steps.0 ∙ sym (append_assoc l.yielded (one ∷ []) c.next.new.self.rest.items);
    }

pub returns-clause-restored : goal.returns-clause-restored
returns-clause-restored g c =
    let l = c.loop-restored in
    let none : length l.restored-iterator.rest.items ≡ 0 = search rules in
    let all = all-came c.args.shards.items l.yielded l.restored-iterator.rest.items l.invariant.rest none in
    same-restored (λ x. x.object) g.S.Object.stands c.args.settings.now c.args.shards.items l.handed.items
    (subst (λ rs. AreSame (λ x. x.object) rs l.handed.items) (sym all) l.invariant.same) c.requires

pub returns-clause-texts : goal.returns-clause-texts
returns-clause-texts g c =
    let l = c.loop-restored in
    let none : length l.restored-iterator.rest.items ≡ 0 = search rules in
    let all = all-came c.args.shards.items l.yielded l.restored-iterator.rest.items l.invariant.rest none in
    same-texts (λ x. x.object) c.args.shards.items l.handed.items (subst (λ rs. AreSame (λ x. x.object) rs l.handed.items) (sym all) l.invariant.same)
