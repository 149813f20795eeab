use Rattle.std.proofs.lemmas.List.{length-map}
use Rattle.service_model_types.specs.declared.transfer.TransferContent.{TransferContent}
use Rattle.transfer.specs.Logs.{Waiting, counted_off}
use Rattle.shard_issued.specs.Sending.{KeepsTransfers, TransfersView, all_outgoing}
use Rattle.transfer.proofs.ContentLemmas.{with_all_sent-nil}
use Rattle.shard_issued.proofs.DispatchLemmas.{all-looked-up}
use Rattle.std.proofs.Common.{length, map, ap, sym, subst, ◌∙◌, lit<, ℕ}
use Rattle.std.specs.Prelude.{bytes_eq, option_map, string_bytes}
use Rattle.std.specs.Map.{lookup}
use Rattle.service_model.specs.Outcome.{latest_run}
use Rattle.shard_store.specs.ShardView.{ordinal_of, states}
use Rattle.shard_issued.specs.Outstanding.{AreCaughtUp, HasFirsts, HasShown}
use Rattle.shard_issued.specs.declared.changed.Changed.{Changed}
use Rattle.shard_issued.proofs.EachLemmas.{each-fresh}
use Rattle.shard_store.proofs.store.Store.restored.Goals as goal

pub invariant_of-result : goal.invariant_of-result
unfolding latest_run
invariant_of-result g c =
    let runs = states c.in_ok-runs.runs.items in
    let firsts = subst (λ (o : Changed). HasFirsts c.args.setup.retention c.new-3.result.slots o runs) (sym c.none.ensures) (each-fresh c.new-3.result.slots runs c.new-3.ensures (ap states c.in_ok-runs.ensures)) in
    let counts = subst (λ (o : Changed). HasShown c.restored-2.result.shown o runs) (sym c.none.ensures) (each-fresh c.restored-2.result.shown runs c.restored-2.ensures.shown (ap states c.in_ok-runs.ensures)) in
    let shards = c.args.setup.shards in
    let counted : ℕ → Waiting TransferContent = λ n. counted_off n in
    let transfers = subst (KeepsTransfers shards (length c.in_ok-runs.runs.items)) (sym c.in_ok-transfers.ensures) (record { sent = length-map c.args.acknowledged.now counted ∙ c.requires.acknowledged; accepted = c.requires.accepted; unsent = tt }) in
    (c.requires.setup, record { latest = λ id. ap (λ es. option_map ordinal_of (lookup (λ k. bytes_eq id (string_bytes k)) es)) c.new-2.ensures.empty ∙ sym (ap (λ t. latest_run (states t) id) c.in_ok-runs.ensures) }, rw c.in_ok-runs.ensures (lit< tt), firsts, counts, transfers)

pub returns : goal.returns
returns g c =
    let setup = c.args.setup in
    let runs = states c.in_ok-runs.runs.items in
    let none = ap states c.in_ok-runs.ensures in
    let caught_up : AreCaughtUp c.none.result = record { grown = ap (λ (o : Changed). o.grown) c.none.ensures; made = ap (λ (o : Changed). o.made) c.none.ensures } in
    let waits = all-looked-up setup c.restored-2.result c.none.result runs caught_up ∙ c.restored-2.ensures.waiting in
    let counted : ℕ → Waiting TransferContent = λ n. counted_off n in
    let sends = ap (λ t. all_outgoing setup t runs) c.in_ok-transfers.ensures ∙ with_all_sent-nil 0 (map counted c.args.acknowledged.now) in
    let accepts = ap (λ (t : TransfersView). t.accepted) c.in_ok-transfers.ensures in
    λ i. record { setup = setup; runs = none i; last = c.zero.ensures i; waiting = waits i; outgoing = sends i; accepted = accepts i }
