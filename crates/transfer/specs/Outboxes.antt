-- PROOF: the transfers to each destination that wait to be acknowledged
use Rattle.std.specs.Prelude.{ℕ, ◌+◌, ◌<◌, ◌≤◌, ◌==◌, List, [], ◌∷◌, drop, filter, length, map, slice_get, slice_index, slice_set, unwrap_or}
use Rattle.std.specs.List.{AllByRecursion}
use Rattle.service_model_types.specs.declared.answer.Acknowledged.{Acknowledged}
use Rattle.service_model_types.specs.declared.content.Outgoing.{Outgoing}
use Rattle.service_model_types.specs.declared.transfer.Sent.{Sent}
use Rattle.service_model_types.specs.declared.transfer.TransferContent.{TransferContent}
use Rattle.transfer.specs.Logs.{Log, Waiting, acknowledged_by, none_waits, one_counted, with_issued}

-- the transfers to all destinations
abbrev pub outgoing : List (Log TransferContent) → List (Waiting TransferContent)
outgoing logs = map (λ (l : Log TransferContent). l.waiting) logs

-- those to one of them
abbrev pub waiting_to : List (Waiting TransferContent) → ℕ → Waiting TransferContent
waiting_to all to = unwrap_or (slice_get all to) none_waits

-- how many more transfers to a destination have room
abbrev pub room_to : List (Log TransferContent) → ℕ → ℕ
room_to logs to = slice_index (map (λ (l : Log TransferContent). l.room) logs) to

-- one more transfer to a destination
abbrev pub issued_to : List (Waiting TransferContent) → ℕ → TransferContent → List (Waiting TransferContent)
issued_to all to content = slice_set all to (with_issued (waiting_to all to) (content ∷ []))

-- a destination acknowledged the first that waits
abbrev pub counted_to : List (Waiting TransferContent) → ℕ → List (Waiting TransferContent)
counted_to all to = slice_set all to (one_counted (waiting_to all to))

-- a destination acknowledged a number
abbrev pub acknowledged_to : List (Waiting TransferContent) → ℕ → Acknowledged → List (Waiting TransferContent)
acknowledged_to all to answer = slice_set all to (acknowledged_by answer (waiting_to all to))

-- those of these that are for a destination
abbrev pub sent_to : List Sent → ℕ → List Sent
sent_to sent to = filter (λ (s : Sent). s.to == to) sent

-- the transfers to a destination with those of these that are for it
abbrev pub with_sent : List Sent → ℕ → Waiting TransferContent → Waiting TransferContent
with_sent sent to w = with_issued w (map (λ (s : Sent). s.content) (sent_to sent to))

-- the transfers to all destinations with these, where this is the number of the first destination
abbrev pub with_all_sent : List Sent → ℕ → List (Waiting TransferContent) → List (Waiting TransferContent)
with_all_sent sent to [] = []
with_all_sent sent to (w ∷ all) = with_sent sent to w ∷ with_all_sent sent (to + 1) all

-- what waits of the transfers of the sequential service to one destination
abbrev pub rest_of : Outgoing → Waiting TransferContent
rest_of o = record { items = drop o.acknowledged o.issued; counted = o.acknowledged }

-- what is acknowledged was issued
abbrev pub AreIssued : List Outgoing → Type 0
AreIssued all = AllByRecursion (λ (o : Outgoing). o.acknowledged ≤ length o.issued) all

-- each destination has room for those of these that are for it
abbrev pub HasRoomFor : List (Log TransferContent) → List Sent → Type 0
HasRoomFor logs sent = (to : ℕ) → to < length logs → length (sent_to sent to) ≤ room_to logs to
