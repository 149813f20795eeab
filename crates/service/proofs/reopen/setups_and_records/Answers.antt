use Rattle.std.proofs.Common.{◌∙◌, ap, length, sym}
use Rattle.std.proofs.lemmas.List.{length-map}
use Rattle.std.specs.Prelude.{map}
use Rattle.std.specs.List.{range_with_len}
use Rattle.service.specs.Contents.{setup_of}
use Rattle.service.proofs.ReopenLemmas.{all-counted}
use Rattle.service.proofs.ServedLemmas.{both}
use Rattle.service.proofs.reopen.setups_and_records.Goals as goal

pub beside_setups-requires-clause-count : goal.beside_setups-requires-clause-count
beside_setups-requires-clause-count c = ap length c.in_ok-all.ensures ∙ all-counted c.args.records.items c.args.settings.now.shards

pub returns-clause-setups : goal.returns-clause-setups
returns-clause-setups c =
    let K = c.args.settings.now in
    let all = ap length c.in_ok-all.ensures ∙ all-counted c.args.records.items K.shards in
    both c.beside_setups.result _ _ _ (λ v setups records. setups ∙ ap (λ n. map (λ k. setup_of K k) (range_with_len 0 n)) (sym (length-map v.items (λ g. g.1)) ∙ ap length records ∙ all)) c.beside_setups.ensures.setups c.beside_setups.ensures.records
