use Rattle.std.proofs.Common.{List, ◌++◌, ◌∷◌, [], ◌∙◌, ap, map, sym}
use Rattle.std.proofs.lemmas.List.{append_assoc}
use Rattle.gate.proofs.Lists.{each_snoc}
use Rattle.service_model.specs.Service.{Entry}
use Rattle.shard_gate.specs.Sources.{hinted}
use Rattle.shard_gate.specs.Starts.{Start, content_behind, starting, waiting_in}
use Rattle.service_model.proofs.ListLemmas.{map-push}
use Rattle.shard_gate.proofs.OpenLemmas.{each-middle, flat-push}
use Rattle.shard_gate.proofs.open.lay.Goals as goal

pub reopen-requires : goal.reopen-requires
reopen-requires g c =
    each-middle (λ x. g.S.Object.stands x.0 (g.S.Object.opening x.0)) c.loop-start.yielded c.next.new.self.rest.items (c.in-Some.start, c.in-Some.log) c.args.given.items
    (c.loop-start.invariant.rest ∙ ap (λ t. c.loop-start.yielded ++ t) c.in-Some.ensures.steps.0) c.requires

pub loop-start-preserved : goal.loop-start-preserved
loop-start-preserved g c =
    let l = c.loop-start in
    let h = l.invariant in
    let opens = g.S.Object.opening in
    let one : g.row.S.Denot × List Entry = (c.in-Some.start, c.in-Some.log) in
    let found = c.in_ok-shard in
    let f = found.field-0 in
    let x : g.row.S.Denot × List Entry = (f.shard, f.log) in
    let is = c.in_ok-push.ensures.items in
    let more = sym (map-push (starting opens) l.yielded one) in
    record {
      starts = ap (map (starting opens)) is ∙ map-push (starting opens) l.objects.items x ∙ ap (λ t. t ++ starting opens x ∷ []) h.starts
          ∙ ap (λ s. map (starting opens) l.yielded ++ (s, f.log) ∷ []) found.ensures.opening
          ∙ ap (λ log. map (starting opens) l.yielded ++ (opens c.in-Some.start, log) ∷ []) found.ensures.log ∙ more;
      standing = each_snoc _ l.objects.items _ x is h.standing found.ensures.stands;
      keeping = each_snoc _ l.objects.items _ x is h.keeping found.ensures.keeping;
      waiting = c.in_ok-append.ensures.items ∙ ap (λ t. t ++ f.waiting.items) h.waiting
          ∙ ap (λ t. waiting_in c.args.source (map (starting opens) l.yielded) ++ t) found.ensures.waiting
          ∙ sym (flat-push (λ (y : Start). hinted c.args.source (content_behind y)) (map (starting opens) l.yielded) (starting opens one))
          ∙ ap (waiting_in c.args.source) more;
      rest = h.rest ∙ ap (λ t. l.yielded ++ t) c.in-Some.ensures.steps.0 ∙ sym (append_assoc l.yielded (one ∷ []) c.next.new.self.rest.items);
    }
