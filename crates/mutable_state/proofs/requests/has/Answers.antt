use Rattle.std.proofs.Common.{ap, sym, ◌∙◌}
use Rattle.std.specs.Prelude.{bytes_eq, string_bytes}
use Rattle.std.specs.List.{list_any}
use Rattle.service_model.specs.Signals.{was_signaled}
use Rattle.mutable_state.specs.RunView.{texts}
use Rattle.mutable_state.proofs.AddLemmas.{list_any-map}
use Rattle.mutable_state.proofs.requests.has.Goals as goal

pub returns-in-Some : goal.returns-in-Some
returns-in-Some c =
    c.contains.ensures
    ∙ ap (λ t. list_any (λ k. bytes_eq t (string_bytes k)) c.args.signals.now.keys) c.as_str.ensures.value
    ∙ sym (list_any-map (λ r. bytes_eq c.in-Some.request r) (λ k. string_bytes k) c.args.signals.now.keys)
    ∙ ap (λ o. was_signaled (texts c.args.signals.now.keys) o) (sym c.in-Some.is)
