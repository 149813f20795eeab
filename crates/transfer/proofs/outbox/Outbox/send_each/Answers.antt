use Rattle.std.proofs.Common.{◌≡◌, ◌∙◌, refl, sym, ap, subst, arith, List, [], ◌∷◌, length}
use Rattle.std.specs.Vec.Iter.{into_iter_items}
use Rattle.service_model_types.specs.declared.transfer.Sent.{Sent}
use Rattle.transfer.specs.Outboxes.{outgoing, with_all_sent, HasRoomFor}
use Rattle.transfer.proofs.ContentLemmas.{with_all_sent-cons, with_all_sent-nil}
use Rattle.transfer.proofs.OutboxLemmas.{room-behind}
use Rattle.transfer.proofs.outbox.Outbox.send_each.Goals as goal

no-length : (l : List Sent) → length l ≡ 0 → l ≡ []
no-length [] h = refl
no-length (s ∷ l) h = absurd (omega arith)

pub loop-one-preserved : goal.loop-one-preserved
loop-one-preserved c =
    let steps = c.in-Some.ensures.steps in
    let inv = c.loop-one.invariant in
    let rest = into_iter_items c.next.new.self in
    let now = outgoing c.loop-one.self in (
      tt,
      tt,
      ap (with_all_sent rest 0) c.send.ensures.issued ∙ sym (with_all_sent-cons c.in-Some.one rest now) ∙ ap (λ (l : List Sent). with_all_sent l 0 now) (sym steps.0) ∙ inv.2,
      c.send.ensures.shards ∙ inv.3,
      room-behind c.loop-one.self c.send.new.self c.in-Some.one rest c.send.ensures.shards c.send.ensures.room (subst (λ (l : List Sent). HasRoomFor c.loop-one.self l) steps.0 inv.4),
      omega (arith, ap length steps.0, steps.1, inv.5),
    )

pub returns-clause-sent : goal.returns-clause-sent
returns-clause-sent c =
    let none = no-length (into_iter_items c.loop-one.one-iterator) (c.loop-one.invariant.5 ∙ c.in-None.ensures.steps.0) in
    sym (with_all_sent-nil 0 (outgoing c.loop-one.self)) ∙ ap (λ (l : List Sent). with_all_sent l 0 (outgoing c.loop-one.self)) (sym none) ∙ c.loop-one.invariant.2
