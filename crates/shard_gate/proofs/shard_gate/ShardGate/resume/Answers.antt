use Rattle.std.proofs.Common.{ap, arith, sym, subst, ◌∙◌, length, map}
use Rattle.std.proofs.lemmas.List.{length-map}
use mathlib.Core.List.{map-map}
use Rattle.service_model_types.specs.declared.content.Content.{Content}
use Rattle.service_model_types.specs.declared.request.Request.{Request}
use Rattle.gate.specs.declared.view.View.{View}
use Rattle.gate.specs.Passes.{IsFresh}
use Rattle.gate.specs.Passes.{view as seen_by}
use Rattle.shard_gate.specs.GateViews.{PassView}
use Rattle.shard_gate.specs.Starts.{Start, opened_with, records_in, starting}
use Rattle.shard_gate.proofs.CloseLemmas.{image-at}
use Rattle.shard_gate.proofs.shard_gate.ShardGate.resume.Goals as goal

pub open-requires-clause-slots : goal.open-requires-clause-slots
open-requires-clause-slots g c =
    let laid = c.in_ok-objects in
    let opens = g.S.Object.opening in
    let count = sym (length-map laid.field-0.objects.items (starting opens)) ∙ ap length laid.ensures.starts ∙ length-map c.args.shards.items (starting opens) in
    (omega (arith, count, c.requires.slots.0), omega (arith, count, c.requires.slots.1))

pub returns : goal.returns
returns g c =
    let laid = c.in_ok-objects in
    let made = c.in_ok-passes in
    let opens = g.S.Object.opening in
    record {
      slots = c.in_ok-gate.ensures.slots ∙ sym (length-map laid.field-0.objects.items (starting opens)) ∙ ap length laid.ensures.starts;
      starts = ap (map (λ y. opens y.0)) c.in_ok-gate.ensures.opened ∙ sym (map-map (λ (s : Start). s.0) (starting opens) laid.field-0.objects.items) ∙ ap opened_with laid.ensures.starts;
      records = ap (map (λ y. y.1)) c.in_ok-gate.ensures.opened ∙ sym (map-map (λ (s : Start). s.1) (starting opens) laid.field-0.objects.items) ∙ ap records_in laid.ensures.starts;
      given = c.in_ok-gate.ensures.given.0;
      count = sym (length-map made.passes.items (λ (p : PassView). p.table)) ∙ ap length made.ensures.tables
          ∙ length-map c.in_ok-gate.inner.items (λ q. q.seat.table_id) ∙ c.in_ok-gate.ensures.given.1;
      own = λ k p there.
          let (i, place, table) = image-at (λ (p : PassView). p.table) (λ q. q.seat.table_id) made.passes.items c.in_ok-gate.inner.items p.table made.ensures.tables k p there in
          let (j, also, known) = image-at (λ (p : PassView). p.known) (λ q. seen_by q) made.passes.items c.in_ok-gate.inner.items p.known made.ensures.known k p there in
          (table ∙ (c.in_ok-gate.ensures.own k i place).0, ap (λ (v : View Request Content). v.origin) known ∙ (c.in_ok-gate.ensures.own k j also).1);
      fresh = λ k p there.
          let (j, also, known) = image-at (λ (p : PassView). p.known) (λ q. seen_by q) made.passes.items c.in_ok-gate.inner.items p.known made.ensures.known k p there in
          subst (λ (v : View Request Content). IsFresh k v) (sym known) (c.in_ok-gate.ensures.fresh k j also);
      waiting = laid.ensures.waiting;
    }
