use Rattle.std.proofs.Common.{List, ◌++◌, ◌∷◌, [], ◌∙◌, ap, map, sym, subst}
use Rattle.std.proofs.lemmas.List.{append_assoc}
use Rattle.gate.proofs.Lists.{each_snoc}
use Rattle.service_model_types.specs.declared.content.Setup.{Setup}
use Rattle.service_model.specs.Service.{Entry}
use Rattle.shard_gate.specs.Opening.{IsSetup}
use Rattle.shard_gate.specs.Starts.{from_setups, starting, starting_empty}
use Rattle.service_model.proofs.ListLemmas.{map-push}
use Rattle.shard_gate.proofs.OpenLemmas.{all-middle}
use Rattle.shard_gate.proofs.open.without_runs.Goals as goal

pub open-requires-clause-service : goal.open-requires-clause-service
open-requires-clause-service g c =
    (all-middle (λ h. IsSetup h.0) c.loop-setup.yielded c.next.new.self.rest.items (c.in-Some.setup, c.in-Some.log) c.args.given.items
    (c.loop-setup.invariant.rest ∙ ap (λ t. c.loop-setup.yielded ++ t) c.in-Some.ensures.steps.0) c.requires).service

pub open-requires-clause-shard : goal.open-requires-clause-shard
open-requires-clause-shard g c =
    (all-middle (λ h. IsSetup h.0) c.loop-setup.yielded c.next.new.self.rest.items (c.in-Some.setup, c.in-Some.log) c.args.given.items
    (c.loop-setup.invariant.rest ∙ ap (λ t. c.loop-setup.yielded ++ t) c.in-Some.ensures.steps.0) c.requires).shard

pub open-requires-clause-some : goal.open-requires-clause-some
open-requires-clause-some g c =
    (all-middle (λ h. IsSetup h.0) c.loop-setup.yielded c.next.new.self.rest.items (c.in-Some.setup, c.in-Some.log) c.args.given.items
    (c.loop-setup.invariant.rest ∙ ap (λ t. c.loop-setup.yielded ++ t) c.in-Some.ensures.steps.0) c.requires).some

pub loop-setup-preserved : goal.loop-setup-preserved
loop-setup-preserved g c =
    let l = c.loop-setup in
    let h = l.invariant in
    let opens = g.S.Object.opening in
    let one : Setup × List Entry = (c.in-Some.setup, c.in-Some.log) in
    let shard = c.in_ok-shard.shard in
    let x : g.row.S.Denot × List Entry = (shard, c.in-Some.log) in
    let opened = c.in_ok-shard.ensures.opened in
    let is = c.in_ok-push.ensures.items in
    record {
      starts = ap (map (starting opens)) is ∙ map-push (starting opens) l.objects.items x ∙ ap (λ t. t ++ starting opens x ∷ []) h.starts
          ∙ ap (λ s. from_setups l.yielded ++ (s, c.in-Some.log) ∷ []) opened ∙ sym (map-push starting_empty l.yielded one);
      standing = each_snoc _ l.objects.items _ x is h.standing (subst (λ s. g.S.Object.stands shard s) (sym opened) c.in_ok-shard.ensures.stands);
      rest = h.rest ∙ ap (λ t. l.yielded ++ t) c.in-Some.ensures.steps.0 ∙ sym (append_assoc l.yielded (one ∷ []) c.next.new.self.rest.items);
    }
