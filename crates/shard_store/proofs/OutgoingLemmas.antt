-- what a shard's transfers leave of what is known of it
use Rattle.std.proofs.Common.{◌≡◌, ℕ, List, Option, sym, ap, ◌∙◌}
use Rattle.service_model_types.specs.declared.transfer.TransferContent.{TransferContent}
use Rattle.service_model_types.specs.declared.content.Setup.{Setup}
use Rattle.service_model.specs.RunState.{RunState}
use Rattle.service_model_types.specs.declared.content.Dispatch.{Dispatch}
use Rattle.transfer.specs.Logs.{Waiting}
use Rattle.shard_issued.specs.Outstanding.{IsCaughtUp, Outstanding}
use Rattle.shard_issued.specs.Sending.{TransfersView, all_outgoing}
use Rattle.shard_issued.proofs.SendingLemmas.{all-sent}
use Rattle.shard_store.specs.ShardView.{ShardState}

-- where all was looked up, the outbox has all that was issued
pub all-issued : (setup : Setup) (t : TransfersView) (runs : List RunState) {changed : Outstanding} {all : List (Waiting TransferContent)} {grown made : Option ℕ} → record { grown = grown; made = made; unsent = t.unsent; answer = t.answer } ≡ changed → all_outgoing setup t runs ≡ all → IsCaughtUp changed → t.sent ≡ all
all-issued setup t runs is issued caught_up = sym (all-sent setup t runs (ap (λ (u : Outstanding). u.unsent) is ∙ caught_up.unsent) (ap (λ (u : Outstanding). u.answer) is ∙ caught_up.answer)) ∙ issued

-- what was issued and what was accepted changed
pub both-moved : (setup : Setup) (runs : List RunState) (last : ℕ) (waiting : Waiting Dispatch) {o o' : List (Waiting TransferContent)} {a a' : List ℕ} → o ≡ o' → a ≡ a' →
    ◌≡◌ {A = ShardState} (record { setup = setup; runs = runs; last = last; waiting = waiting; outgoing = o; accepted = a }) (record { setup = setup; runs = runs; last = last; waiting = waiting; outgoing = o'; accepted = a' })
both-moved setup runs last waiting e f = λ i. record { setup = setup; runs = runs; last = last; waiting = waiting; outgoing = e i; accepted = f i }
