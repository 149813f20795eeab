-- PROOF: a service with one pass: what the pass has seen is all that was there and all that was done
use Rattle.std.specs.Prelude.{◌≡◌, ℕ, ◌*◌, ◌<◌, ◌++◌, List, length, map, slice_index_or}
use Rattle.std.specs.List.{range_with_len}
use Rattle.service_model_types.specs.declared.content.Content.{Content}
use Rattle.service_model_types.specs.declared.request.Request.{Request}
use Rattle.service_model_types.specs.declared.settings.Settings.{Settings}
use Rattle.service_model.specs.Service.{Entry, after, opening}
use Rattle.gate.specs.declared.view.View.{View}
use Rattle.gate.specs.Passes.{base, mine, number, passes, seen, starts, tickets, width}
use Rattle.gate.specs.Records.{replay}
use Rattle.matching.specs.declared.view.View.{View as HintView}
use Rattle.matching.specs.Alone.{IsAlone, waiting_of}
use Rattle.matching.specs.Named.{at}
use Rattle.service.specs.ServiceViews.{Service}
use Rattle.service.specs.ServiceViews.{Pass}
use Rattle.service.specs.Contents.{setup_of}
use Rattle.service.specs.Services.{IsPassOf, hints_by, known_by, settings_of}
use Rattle.script.specs.Sorted.{steps_seen}
use Rattle.script.specs.World.{World}

-- the content at which a shard started
abbrev pub start_seen : Settings → View Request Content → ℕ → Content
start_seen K v shard = slice_index_or (starts v) shard (opening (setup_of K shard))

-- a shard's content after the record that was seen of it
abbrev pub content_seen : Settings → View Request Content → ℕ → Content
content_seen K v shard = replay after (start_seen K v shard) (seen v shard)

-- the shards' contents after the records that were seen
abbrev pub contents_seen : Settings → View Request Content → List Content
contents_seen K v = map (content_seen K v) (range_with_len 0 K.shards)

-- the records that were seen
abbrev pub records_seen : Settings → View Request Content → List (List Entry)
records_seen K v = map (seen v) (range_with_len 0 K.shards)

-- the world as the only pass knows it: in each queue wait the hints that it pushed and did not pop, and the steps are
-- its own, in the order of their tickets
abbrev pub world_seen : Settings → View Request Content → List HintView → World
world_seen K v hs = record { contents = contents_seen K v; waiting = map waiting_of hs; records = records_seen K v; steps = steps_seen v }

-- what the only pass knows of the shards: it has seen the records that they were opened with, and its own steps alone
pub record KnowsAll (v : View Request Content) : Type 0 where
  pub first : number v ≡ 0
  pub one : passes v ≡ 1
  pub alone : (s : ℕ) → seen v s ≡ base v s ++ mine v s
  -- each of its steps has its ticket
  pub paired : (s : ℕ) → length (tickets v s) ≡ length (mine v s)
  pub wide : length (starts v) ≡ width v

-- what it knows of the queues: it is alone at each
pub record KnowsQueues (K : Settings) (hs : List HintView) : Type 0 where
  pub count : length hs ≡ 2 * length K.queues
  pub alone : (s : ℕ) → s < length hs → IsAlone (at hs s)
  pub shards : (s : ℕ) → s < length hs → (at hs s).shards ≡ K.shards

-- the pass is the service's only one
pub record IsOnePass (x : Service) (p : Pass) : Type 0 where
  pub own : IsPassOf p x
  pub all : KnowsAll (known_by p)
  pub queues : KnowsQueues (settings_of x) (hints_by p)
