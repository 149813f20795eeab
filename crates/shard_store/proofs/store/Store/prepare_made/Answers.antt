use Rattle.std.proofs.Common.{◌∙◌, ap, sym}
use Rattle.service_model.specs.RunState.{id_of, is_there}
use Rattle.mutable_state.specs.RunView.{RunView}
use Rattle.shard_store.proofs.StepLemmas.{id-of-begun, there-begun}
use Rattle.shard_store.proofs.store.Store.prepare_made.Goals as goal

pub returns-clause-made : goal.returns-clause-made
returns-clause-made g c =
    let b = c.args.beginning in
    record {
      place = record {
        room = c.in_ok-reserve_runs.ensures.room;
        caught_up = c.in_ok-reserve_runs.ensures.caught_up.made;
        few = c.in_ok-reserve_runs.ensures.few;
        there = ap (λ (v : RunView). is_there v.state) c.in_ok-run.ensures ∙ ap is_there c.in_ok-begun.ensures ∙ there-begun c.args.moment b.facts b.request_id b.started;
        named = ap (λ (v : RunView). id_of v.state) c.in_ok-run.ensures ∙ ap id_of c.in_ok-begun.ensures ∙ id-of-begun c.args.moment b.facts b.request_id b.started ∙ sym (c.in_ok-key.ensures.ok ∙ c.as_str-id.ensures.value);
      };
      made = ap (λ (v : RunView). v.state) c.in_ok-run.ensures ∙ c.in_ok-begun.ensures;
      begins = c.requires;
    }
