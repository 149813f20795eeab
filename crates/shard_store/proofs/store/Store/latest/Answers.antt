use Rattle.std.proofs.Common.{ap, ◌∙◌}
use Rattle.std.specs.Prelude.{option_map}
use Rattle.indexmap.specs.IndexMap.{get_by_text}
use Rattle.service_model.specs.Outcome.{latest_run}
use Rattle.shard_store.specs.ShardView.{ordinal_of, states}
use Rattle.shard_store.proofs.IndexLemmas.{latest_run-within, place-within}
use Rattle.shard_store.proofs.OpenLemmas.{run-latest}
use Rattle.shard_store.proofs.store.Store.latest.Goals as goal

pub returns-clause-found : goal.returns-clause-found
returns-clause-found g c =
    ap (option_map ordinal_of) (c.copied.ensures ∙ c.get.ensures.value ∙ ap (get_by_text c.self.inside.index) c.as_str.ensures.value)
    ∙ c.self.invariant.1.latest c.args.id.now ∙ ap (λ v. latest_run (states v.runs) c.args.id.now) c.self.view_is

pub returns-clause-there : goal.returns-clause-there
returns-clause-there g c = place-within _ c.copied.result _ (returns-clause-found g c) (latest_run-within c.args.id.now c.args.self.now.runs)

pub returns-clause-begun : goal.returns-clause-begun
returns-clause-begun g c = run-latest c.args.self.now c.args.id.now c.copied.result (returns-clause-found g c)
