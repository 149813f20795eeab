-- PROOF: the transfers that a shard sent and accepted, and what of it is looked up after the step that sends it
use Rattle.std.specs.Prelude.{◌≡◌, ℕ, ◌+◌, ◌<◌, List, [], ◌++◌, if◌then◌else◌, drop, length, nat_lt, option_to_list, slice_get, slice_index_or, Option, None, Some, IfSome}
use Rattle.wf_event_values.specs.declared.field.Field.TheVariants as field
use Rattle.wf_event_values.specs.declared.refusal.Refusal.TheVariants.{InvalidArgument}
use Rattle.service_model_types.specs.declared.content.Setup.{Setup}
use Rattle.service_model_types.specs.declared.request.Acknowledge.{Acknowledge}
use Rattle.service_model_types.specs.declared.transfer.Sent.{Sent}
use Rattle.service_model_types.specs.declared.transfer.TransferContent.{TransferContent}
use Rattle.service_model.specs.Counts.{acknowledges, next_answer}
use Rattle.service_model.specs.Issued.{transfers_by}
use Rattle.service_model.specs.Outcome.{Outcome, AcknowledgesTo, answered, refused, run_id}
use Rattle.service_model.specs.RunState.{RunState, no_run}
use Rattle.transfer.specs.Logs.{Waiting, count_issued}
use Rattle.transfer.specs.Outboxes.{waiting_to, with_all_sent}
use Rattle.shard_issued.specs.declared.transfers.Unsent.{Unsent}

-- the transfers as they are kept: those to each destination that wait, how many were accepted from each source, the
-- events whose transfers were not looked up, and the answer to a transfer that was not issued yet
pub record TransfersView : Type 0 where
  pub sent : List (Waiting TransferContent)
  pub accepted : List ℕ
  pub unsent : Option Unsent
  pub answer : Option Sent

-- the transfers of the run with this ordinal, by its events but for so many first ones
abbrev pub sent_since : Setup → ℕ → ℕ → RunState → List Sent
sent_since setup shown run s = transfers_by setup (run_id setup run) s (drop shown s.shown)

-- the transfers that were not looked up, where these are the runs
abbrev pub of_unsent : Setup → Option Unsent → List RunState → List Sent
of_unsent setup None runs = []
of_unsent setup (Some u) runs = sent_since setup u.shown (u.index + 1) (slice_index_or runs u.index no_run)

-- what waits for each destination, with those that were not looked up, and the answer after them
abbrev pub all_outgoing : Setup → TransfersView → List RunState → List (Waiting TransferContent)
all_outgoing setup t runs = with_all_sent (of_unsent setup t.unsent runs ++ option_to_list t.answer) 0 t.sent

-- the first transfer to a shard that waits, under its number
unfoldable pub next_to : Setup → List (Waiting TransferContent) → ℕ → Outcome
next_to setup all to =
    if nat_lt to setup.shards then
    (let w = waiting_to all to in answered (next_answer setup (w.counted + 1) (slice_get w.items 0)))
    else refused (InvalidArgument field.To)

-- a transfer is acknowledged, where it is the first to its shard that waits
unfoldable pub count_to : Setup → List (Waiting TransferContent) → Acknowledge → Outcome
count_to setup all q =
    if nat_lt q.to setup.shards then
    (let w = waiting_to all q.to in acknowledges (count_issued w) w.counted q.number (AcknowledgesTo q.to))
    else refused (InvalidArgument field.To)

-- there is an outbox and an inbox for each of so many shards, and the events that were not looked up are those of one of so many runs
pub record KeepsTransfers (shards runs : ℕ) (t : TransfersView) : Type 0 where
  pub sent : length t.sent ≡ shards
  pub accepted : length t.accepted ≡ shards
  pub unsent : IfSome t.unsent (λ u. u.index < runs)
