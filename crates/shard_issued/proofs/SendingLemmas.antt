-- what a step sends, by what is looked up after it
use Rattle.std.proofs.Common.{◌≡◌, ℕ, ◌+◌, ◌<◌, ◌≤◌, cond, map, List, [], ◌∷◌, ◌++◌, length, append-nil, refl, sym, ap, ◌∙◌, arith, suc, slice_index_or, slice_set, Option, Some, None, IfSome}
use Rattle.std.proofs.lemmas.List.{get_or-set_same, length-set}
use Rattle.std.specs.Prelude.{nat_lt, option_to_list, slice_get}
use Rattle.wf_event_values.specs.declared.field.Field.TheVariants as field
use Rattle.wf_event_values.specs.declared.refusal.Refusal.TheVariants.{InvalidArgument}
use Rattle.service_model_types.specs.declared.content.Outgoing.{Outgoing}
use Rattle.service_model_types.specs.declared.content.Setup.{Setup}
use Rattle.service_model_types.specs.declared.request.Acknowledge.{Acknowledge}
use Rattle.service_model_types.specs.declared.transfer.Sent.{Sent}
use Rattle.service_model.specs.Counts.{acknowledge, acknowledges, next_answer, next_transfer, outgoing_to}
use Rattle.service_model.specs.Issued.{transfers_of}
use Rattle.service_model.specs.Outcome.{AcknowledgesTo, answered, refused}
use Rattle.service_model.specs.RunState.{RunState, no_run}
use Rattle.service_model_types.specs.declared.transfer.TransferContent.{TransferContent}
use Rattle.transfer.specs.Logs.{Waiting, count_issued}
use Rattle.transfer.specs.Outboxes.{AreIssued, counted_to, issued_to, rest_of, waiting_to, with_all_sent}
use Rattle.transfer.proofs.ContentLemmas.{count-rest, counted-sent, first-rest, rest-to, with_all_sent-behind, with_all_sent-cons, with_all_sent-nil}
use Rattle.shard_issued.specs.Outstanding.{AreCaughtUp, HasShown, IsCaughtUp, outstanding}
use Rattle.shard_issued.specs.Sending.{TransfersView, KeepsTransfers, all_outgoing, count_to, next_to, of_unsent, sent_since}
use Rattle.shard_issued.specs.declared.changed.Changed.{Changed}
use Rattle.shard_issued.specs.declared.transfers.Unsent.{Unsent}
use Rattle.shard_issued.proofs.DispatchLemmas.{get-at, still-there}
use Rattle.shard_issued.proofs.EachLemmas.{shown-at}

-- there are as many destinations as before
pub length-sent : (sent : List Sent) (to : ℕ) (all : List (Waiting TransferContent)) → length (with_all_sent sent to all) ≡ length all
length-sent sent to [] = refl
length-sent sent to (o ∷ all) = ap suc (length-sent sent (to + 1) all)

pub length-counted : (all : List (Waiting TransferContent)) (to : ℕ) → length (counted_to all to) ≡ length all
length-counted all to = length-set all to _

-- where all was caught up with, the runs were
pub runs-caught-up : (c : Changed) (t : TransfersView) → IsCaughtUp (outstanding c t) → AreCaughtUp c
runs-caught-up c t caught_up = record { grown = caught_up.grown; made = caught_up.made }

-- where all was looked up, all that was issued is in the outbox
pub all-sent : (setup : Setup) (t : TransfersView) (runs : List RunState) → t.unsent ≡ None → t.answer ≡ None → all_outgoing setup t runs ≡ t.sent
all-sent setup t runs no_events no_answer =
    ap (λ u. with_all_sent (of_unsent setup u runs ++ option_to_list t.answer) 0 t.sent) no_events
    ∙ ap (λ a. with_all_sent (option_to_list a) 0 t.sent) no_answer ∙ with_all_sent-nil 0 t.sent

-- a run grew
pub grown-sends : (setup : Setup) (t t' : TransfersView) (counts : List ℕ) (changed : Changed) (runs now : List RunState) (n shown : ℕ) (s' : RunState) → IsCaughtUp (outstanding changed t) → t' ≡ record t { unsent = Some (record { index = n; shown = shown }) } → shown ≡ slice_index_or counts n 0 → n < length runs →
    now ≡ slice_set runs n s' → HasShown counts changed runs → all_outgoing setup t' now ≡ with_all_sent (transfers_of setup (n + 1) (slice_index_or runs n no_run) s') 0 (all_outgoing setup t runs)
grown-sends setup t t' counts changed runs now n shown s' caught_up is was there grown h =
    let s = slice_index_or runs n no_run in
    let F : List Sent → List (Waiting TransferContent) = λ l. with_all_sent l 0 t.sent in
    let before : shown ≡ length s.shown = was ∙ shown-at counts changed runs n s (runs-caught-up changed t caught_up) (get-at runs n there) h in
    let state : slice_index_or now n no_run ≡ s' = ap (λ l. slice_index_or l n no_run) grown ∙ get_or-set_same runs n s' no_run there in
    ap (λ (x : TransfersView). all_outgoing setup x now) is
    ∙ ap (λ a. F (sent_since setup shown (n + 1) (slice_index_or now n no_run) ++ option_to_list a)) caught_up.answer
    ∙ ap F (append-nil (sent_since setup shown (n + 1) (slice_index_or now n no_run)))
    ∙ ap (λ k. F (sent_since setup k (n + 1) (slice_index_or now n no_run))) before
    ∙ ap (λ x. F (sent_since setup (length s.shown) (n + 1) x)) state
    ∙ ap (with_all_sent (transfers_of setup (n + 1) s s') 0) (sym (all-sent setup t runs caught_up.unsent caught_up.answer))

-- a run was added
unsent-behind : (setup : Setup) (u : Option Unsent) (runs : List RunState) (s : RunState) → IfSome u (λ u. u.index < length runs) → of_unsent setup u (runs ++ s ∷ []) ≡ of_unsent setup u runs
unsent-behind setup None runs s low = refl
unsent-behind setup (Some u) runs s low = ap (sent_since setup u.shown (u.index + 1)) (still-there no_run runs s u.index low)

pub added-sends : (setup : Setup) (t : TransfersView) (runs now : List RunState) (s : RunState) → now ≡ runs ++ s ∷ [] → IfSome t.unsent (λ u. u.index < length runs) → all_outgoing setup t now ≡ all_outgoing setup t runs
added-sends setup t runs now s is low =
    ap (all_outgoing setup t) is ∙ ap (λ l. with_all_sent (l ++ option_to_list t.answer) 0 t.sent) (unsent-behind setup t.unsent runs s low)

-- a transfer was answered
pub answered-sends : (setup : Setup) (t t' : TransfersView) (runs : List RunState) (a : Sent) → t.answer ≡ None → t' ≡ record t { answer = Some a } → all_outgoing setup t' runs ≡ with_all_sent (a ∷ []) 0 (all_outgoing setup t runs)
answered-sends setup t t' runs a none is =
    let U = of_unsent setup t.unsent runs in
    ap (λ (x : TransfersView). all_outgoing setup x runs) is ∙ with_all_sent-behind U (a ∷ []) t.sent
    ∙ ap (λ l. with_all_sent (a ∷ []) 0 (with_all_sent l 0 t.sent)) (sym (append-nil U) ∙ ap (λ x. U ++ option_to_list x) (sym none))

-- a shard acknowledged a transfer
pub acknowledged-sends : (setup : Setup) (t t' : TransfersView) (runs : List RunState) (to : ℕ) → 0 < length (waiting_to t.sent to).items → t' ≡ record t { sent = counted_to t.sent to } → all_outgoing setup t' runs ≡ counted_to (all_outgoing setup t runs) to
acknowledged-sends setup t t' runs to some is = ap (λ (x : TransfersView). all_outgoing setup x runs) is ∙ sym (counted-sent (of_unsent setup t.unsent runs ++ option_to_list t.answer) t.sent to some)

-- the transfers of the run that grew were looked up
pub sent-looked-up : (setup : Setup) (t t' : TransfersView) (runs : List RunState) (u : Unsent) (sent : List Sent) → t.unsent ≡ Some u → sent ≡ sent_since setup u.shown (u.index + 1) (slice_index_or runs u.index no_run) →
    t' ≡ record t { sent = with_all_sent sent 0 t.sent; unsent = None } → all_outgoing setup t' runs ≡ all_outgoing setup t runs
sent-looked-up setup t t' runs u sent unsent found is =
    let A = option_to_list t.answer in
    ap (λ (x : TransfersView). all_outgoing setup x runs) is ∙ sym (with_all_sent-behind sent A t.sent) ∙ ap (λ l. with_all_sent (l ++ A) 0 t.sent) found
    ∙ ap (λ x. with_all_sent (of_unsent setup x runs ++ A) 0 t.sent) (sym unsent)

-- the answer was issued
pub answer-looked-up : (setup : Setup) (t t' : TransfersView) (runs : List RunState) → t.unsent ≡ None → t' ≡ record t { sent = with_all_sent (option_to_list t.answer) 0 t.sent; answer = None } → all_outgoing setup t' runs ≡ all_outgoing setup t runs
answer-looked-up setup t t' runs none is =
    let A = option_to_list t.answer in
    let X = with_all_sent A 0 t.sent in
    ap (λ (x : TransfersView). all_outgoing setup x runs) is ∙ ap (λ u. with_all_sent (of_unsent setup u runs ++ []) 0 X) none ∙ with_all_sent-nil 0 X
    ∙ ap (λ u. with_all_sent (of_unsent setup u runs ++ A) 0 t.sent) (sym none)

-- more runs are there
pub keeps-more : (shards n m : ℕ) (t : TransfersView) → n ≤ m → KeepsTransfers shards n t → KeepsTransfers shards m t
keeps-more shards n m t more h = record { sent = h.sent; accepted = h.accepted; unsent = below t.unsent h.unsent }
  where
    below : (u : Option Unsent) → IfSome u (λ u. u.index < n) → IfSome u (λ u. u.index < m)
    below None low = tt
    below (Some u) low = omega (arith, low, more)

-- the transfers once their answer was issued
abbrev pub with_answer_sent : TransfersView → TransfersView
with_answer_sent t = record { sent = with_all_sent (option_to_list t.answer) 0 t.sent; accepted = t.accepted; unsent = t.unsent; answer = None }

pub no-answer : (t : TransfersView) → t.answer ≡ None → t ≡ with_answer_sent t
no-answer t none =
    let stays : t.sent ≡ with_all_sent (option_to_list t.answer) 0 t.sent = sym (ap (λ a. with_all_sent (option_to_list a) 0 t.sent) none ∙ with_all_sent-nil 0 t.sent) in
    λ i. record { sent = stays i; accepted = t.accepted; unsent = t.unsent; answer = none i }

pub answer-issued : (t : TransfersView) (a : Sent) (now : List (Waiting TransferContent)) (left : Option Sent) → t.answer ≡ Some a → now ≡ issued_to t.sent a.to a.content → left ≡ None → record { sent = now; accepted = t.accepted; unsent = t.unsent; answer = left } ≡ with_answer_sent t
answer-issued t a now left given issued taken =
    let sends : now ≡ with_all_sent (option_to_list t.answer) 0 t.sent =
    issued ∙ sym (with_all_sent-cons a [] t.sent ∙ with_all_sent-nil 0 (issued_to t.sent a.to a.content)) ∙ ap (λ o. with_all_sent (option_to_list o) 0 t.sent) (sym given) in
    λ i. record { sent = sends i; accepted = t.accepted; unsent = t.unsent; answer = taken i }

-- reading and counting what waits of a content's transfers is reading and counting them
pub next-to-is : (setup : Setup) (all : List Outgoing) (to : ℕ) → next_transfer setup all to ≡ next_to setup (map rest_of all) to
unfolding next_transfer next_to
next-to-is setup all to =
    let o = outgoing_to all to in
    ap (λ t. cond (nat_lt to setup.shards) (answered (next_answer setup (o.acknowledged + 1) t)) (refused (InvalidArgument field.To))) (sym (first-rest all to))
    ∙ ap (λ n. cond (nat_lt to setup.shards) (answered (next_answer setup (n + 1) (slice_get (waiting_to (map rest_of all) to).items 0))) (refused (InvalidArgument field.To))) (sym (ap (λ (w : Waiting TransferContent). w.counted) (rest-to all to)))

pub count-to-is : (setup : Setup) (all : List Outgoing) (q : Acknowledge) → AreIssued all → acknowledge setup all q ≡ count_to setup (map rest_of all) q
unfolding acknowledge count_to
count-to-is setup all q h =
    let o = outgoing_to all q.to in
    ap (λ n. cond (nat_lt q.to setup.shards) (acknowledges n o.acknowledged q.number (AcknowledgesTo q.to)) (refused (InvalidArgument field.To))) (sym (count-rest all q.to h))
    ∙ ap (λ n. cond (nat_lt q.to setup.shards) (acknowledges (count_issued (waiting_to (map rest_of all) q.to)) n q.number (AcknowledgesTo q.to)) (refused (InvalidArgument field.To))) (sym (ap (λ (w : Waiting TransferContent). w.counted) (rest-to all q.to)))
