-- MEANING: the headline. Whatever calls, transfers and timer turns many threads make, each answered step leaves its
-- caller a record of that shard which begins with all the caller had seen there, holds each of the caller's steps once,
-- in order, and ends with this step; its reply and every run's whole history are the sequential service's at that point;
-- no transfer takes effect twice; records of callers that meet agree.
use Rattle.std.specs.Prelude.{◌≡◌, ◌≢◌, ℕ, ◌+◌, ◌<◌, List, [], ◌∷◌, ◌++◌, Ok}
use Rattle.service_model_types.specs.declared.answer.Answer.TheVariants.{Accepted}
use Rattle.service_model_types.specs.declared.content.Content.{Content}
use Rattle.service_model_types.specs.declared.request.Operation.TheVariants.{Deliver}
use Rattle.service_model_types.specs.declared.request.Request.{Request}
use Rattle.service_model_types.specs.declared.transfer.Transfer.{Transfer}
use Rattle.service_model_types.specs.Replies.{Reply}
use Rattle.service_model.specs.Deliveries.{accepted_from}
use Rattle.service_model.specs.Growth.{KeepsHistories}
use Rattle.service_model.specs.Service.{Entry, answer, after}
use Rattle.gate.specs.declared.view.View.{View}
use Rattle.gate.specs.Passes.{Agree, AgreeTickets, base, mine, number, seen}
use Rattle.gate.specs.Records.{Begins, by, past, replay}
use Rattle.service.specs.ServiceViews.{Service}
use Rattle.service.specs.Starting.{start_of}

-- what the sequential service makes of a shard by a record of it: the content after its entries, one after another
abbrev pub content_of : Service → ℕ → List Entry → Content
content_of x shard log = replay after (start_of x shard) log

-- "Each answered step leaves its caller a record of that shard": the caller's pass knew v, and then knows w
pub record LeavesARecord (v w : View Request Content) (shard : ℕ) (q : Request) : Type 0 where
  -- the record as the step found it "begins with all the caller had seen there"
  pub front : List Entry
  pub extends : Begins (seen v shard) front
  -- and the record "ends with this step"
  pub last : seen w shard ≡ front ++ record { pass = number v; request = q } ∷ []
  -- past the record at the opening it "holds each of the caller's steps once, in order"
  pub based : Begins (base v shard) (seen w shard)
  pub own : by (number v) (past (base v shard) (seen w shard)) ≡ mine w shard
  -- and these are the ones from before, and this one
  pub adds : mine w shard ≡ mine v shard ++ record { pass = number v; request = q } ∷ []
  -- other shards' are as they were
  pub others : (k : ℕ) → k ≢ shard → (seen w k ≡ seen v k) × (mine w k ≡ mine v k)

-- "Its reply and every run's whole history are the sequential service's at that point; no transfer takes effect twice":
-- `front` is the record as the step found it
pub record IsSequential (x : Service) (v w : View Request Content) (shard : ℕ) (front : List Entry) (q : Request)
    (r : Reply) : Type 0 where
  pub reply : r ≡ answer (content_of x shard front) q
  -- each history begins with what it was when the caller last saw the shard
  pub kept : KeepsHistories (content_of x shard (seen v shard)) (content_of x shard (seen w shard))
  -- a transfer that the step delivers and that is answered `accepted` is the next one of its shard, and is counted
  pub once : (t : Transfer) (n : ℕ) → q.operation ≡ Deliver t → r ≡ Ok (Accepted n)
      → (t.number ≡ accepted_from (content_of x shard front).accepted t.from + 1)
      × (accepted_from (after (content_of x shard front) q).accepted t.from ≡ t.number)
  -- any other delivery has no effect
  pub only : (t : Transfer) → q.operation ≡ Deliver t → ((n : ℕ) → r ≢ Ok (Accepted n))
      → (after (content_of x shard front) q).runs ≡ (content_of x shard front).runs

-- "Records of callers that meet agree": two passes knew a and b, and know c and d after they met
pub record MeetAndAgree (shards : ℕ) (a b c d : View Request Content) : Type 0 where
  -- of each shard, one had seen a beginning of the record that the other had, and of its tickets, and then both have
  -- seen the longer
  pub agree : (shard : ℕ) → shard < shards → Agree a b c d shard × AgreeTickets a b c d shard
