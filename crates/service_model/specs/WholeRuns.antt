-- MEANING: a run of the whole service: the steps of all shards, one after another
use Rattle.std.specs.Prelude.{◌≡◌, ℕ, ◌==◌, ◌-◌, ◌≤◌, Bool, true, false, if◌then◌else◌, List, [], ◌∷◌, ◌++◌, take, slice_get, Some}
use Rattle.service_model_types.specs.declared.content.Content.{Content}
use Rattle.service_model_types.specs.declared.content.Setup.{Setup}
use Rattle.service_model_types.specs.declared.request.Acknowledge.{Acknowledge}
use Rattle.service_model_types.specs.declared.request.Operation.{Operation}
use Rattle.service_model_types.specs.declared.request.Operation.TheVariants as operation
use Rattle.service_model_types.specs.declared.request.Request.{Request}
use Rattle.service_model_types.specs.declared.transfer.Transfer.{Transfer}
use Rattle.service_model_types.specs.declared.transfer.TransferContent.{TransferContent}
use Rattle.service_model.specs.Counts.{outgoing_to}
use Rattle.service_model.specs.Deliveries.{accepted_from}
use Rattle.service_model.specs.Service.{Entry, after, opening, replay}

-- a step: the shard, and its entry
abbrev pub Whole : Type 0
Whole = List (ℕ × Entry)

-- the entries of a shard
abbrev pub on : ℕ → Whole → List Entry
on s [] = []
on s (x ∷ xs) = if s == x.0 then x.1 ∷ on s xs else on s xs

-- each shard's content after the steps
abbrev pub content_at : (ℕ → Setup) → Whole → ℕ → Content
content_at setups W s = replay (setups s) (on s W)

-- the source has issued the transfer to shard s under its number
abbrev pub Holds : ℕ → Transfer → Content → Type 0
Holds s t source = (1 ≤ t.number) × (slice_get (outgoing_to source.outgoing s).issued (t.number - 1) ≡ Some t.content)

-- the destination has accepted that number from shard s
abbrev pub Accepted : ℕ → Acknowledge → Content → Type 0
Accepted s q destination = (1 ≤ q.number) × (q.number ≤ accepted_from destination.accepted s)

-- what the contents of all shards have to show before a request on shard s
abbrev pub Grounded : (ℕ → Content) → ℕ → Operation → Type 0
Grounded S s (operation.Deliver t) = Holds s t (S t.from)
Grounded S s (operation.Acknowledge q) = Accepted s q (S q.to)
Grounded S s _ = Unit {0}

-- what comes before each step grounds it
abbrev pub IsWhole : (ℕ → Setup) → Whole → Type 0
IsWhole setups W =
    (front rest : Whole) (s : ℕ) (e : Entry) → W ≡ front ++ (s, e) ∷ rest → Grounded (content_at setups front) s e.request.operation

-- what a step accepted_in of a source: nothing where its count stays, else what it delivers
abbrev pub delivered : Bool → Operation → List TransferContent
delivered true a = []
delivered false (operation.Deliver t) = t.content ∷ []
delivered false _ = []

abbrev pub accepted_in : Content → ℕ → Request → List TransferContent
accepted_in S from q = delivered (accepted_from (after S q).accepted from == accepted_from S.accepted from) q.operation

-- the transfers that a record has accepted of a source, in order
abbrev pub all_accepted : Content → ℕ → List Entry → List TransferContent
all_accepted S from [] = []
all_accepted S from (e ∷ es) = accepted_in S from e.request ++ all_accepted (after S e.request) from es

abbrev pub Starts : List TransferContent → List TransferContent → Type 0
Starts xs ys = (rest : List TransferContent) × (ys ≡ xs ++ rest)

-- of the transfers from one shard to another, those that are acknowledged begin those that are accepted, and these
-- begin those that were issued
abbrev pub InOrder : (ℕ → Setup) → Whole → ℕ → ℕ → Type 0
InOrder setups W from to =
    let o = outgoing_to (content_at setups W from).outgoing to in
    let accepted = all_accepted (opening (setups to)) from (on to W) in
    Starts (take o.acknowledged o.issued) accepted × Starts accepted o.issued

-- at every place of a run, for every pair of shards
abbrev pub TransfersInOrder : Type 0
TransfersInOrder = (setups : ℕ → Setup) (W : Whole) → IsWhole setups W → (front rest : Whole) → W ≡ front ++ rest → (from to : ℕ)
    → InOrder setups front from to
