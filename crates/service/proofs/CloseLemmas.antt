-- how a service is closed
use Rattle.std.proofs.Common.{◌≡◌, ℕ, ◌*◌, ◌<◌, List, Some, map, length, ap, sym, ◌∙◌, subst, arith}
use Rattle.std.specs.Prelude.{slice_get}
use Rattle.service_model.specs.Service.{Entry, after}
use Rattle.gate.specs.AtClose.{IsEnd, HasDone, IsHistory}
use Rattle.gate.specs.Passes.{number}
use Rattle.gate.specs.Records.{grounds_by}
use Rattle.shard_gate.specs.Grounding.{grounds}
use Rattle.matching.specs.AtClose as of_queue
use Rattle.matching.specs.Named as matching
use Rattle.matching.specs.declared.queues.Queues.{Queues}
use Rattle.matching.specs.declared.queues.QueuesPass.{QueuesPass}
use Rattle.service_model.proofs.ListLemmas.{get-map}
use Rattle.shard_gate.specs.GateViews as gates
use Rattle.service.specs.AtClose.{base_of, held_at, parts_at}
use Rattle.service.specs.Services.{known_by, IsOpened, IsPassOf}
use Rattle.service.specs.ServiceViews.{Pass, Service}

-- all passes came back, so one did, and it says that the service was opened
pub opened-by : (passes : List Pass) (x : Service) → 0 < x.settings.passes → ((k : ℕ) (p : Pass) → slice_get passes k ≡ Some p → IsPassOf p x)
    → ((n : ℕ) → n < x.settings.passes → (k : ℕ) × (p : Pass) × (slice_get passes k ≡ Some p) × (number (known_by p) ≡ n)) → IsOpened x
opened-by passes x some own all = let (k, p, there, named) = all 0 some in (own k p there).opened

-- a record that the gate gives is the service's
pub ends-with : (x : Service) (g : gates.GateView) → g ≡ x.gate → IsOpened x → (k : ℕ) (log : List Entry) → IsEnd (gates.base_of g k) (gates.given g) log → IsEnd (base_of x k) x.settings.passes log
ends-with x g same opened k log h =
    subst (λ (n : ℕ). IsEnd (base_of x k) n log) opened.passes (subst (λ (y : gates.GateView). IsEnd (gates.base_of y k) (gates.given y) log) same h)

pub has-done : (x : Service) (g : gates.GateView) → g ≡ x.gate → (k : ℕ) (log : List Entry) (p : Pass) → HasDone (gates.base_of g k) p.inner.known k log → HasDone (base_of x k) (known_by p) k log
has-done x g same k log p h = subst (λ (y : gates.GateView). HasDone (gates.base_of y k) p.inner.known k log) same h

-- the gate's history is the service's
pub history-as : (x : Service) (g : gates.GateView) → g ≡ x.gate → IsOpened x → (logs : ℕ → List Entry) (tickets : ℕ → List ℕ)
    → gates.IsHistoryOf g logs tickets → IsHistory (grounds_by grounds after (gates.starts_of x.gate)) (base_of x) x.settings.shards logs tickets
history-as x g same opened logs tickets h =
    let own = subst (λ (y : gates.GateView). gates.IsHistoryOf y logs tickets) same h in
    subst (λ (n : ℕ). IsHistory (grounds_by grounds after (gates.starts_of x.gate)) (base_of x) n logs tickets) opened.slots own

-- ---- the task queues

-- the parts of the service's passes at its queues are passes of these
pub hints-own : (passes : List Pass) (x : Service) (queues : Queues) → queues ≡ x.queues → ((k : ℕ) (p : Pass) → slice_get passes k ≡ Some p → IsPassOf p x)
    → (hints : List QueuesPass) → hints ≡ map (λ (p : Pass). p.hints) passes → (k : ℕ) (i : QueuesPass) → slice_get hints k ≡ Some i → matching.IsPassOf i queues
hints-own passes x queues same own hints are k i there =
    let (p, place, is) = get-map (λ (p : Pass). p.hints) passes k i (ap (λ t. slice_get t k) (sym are) ∙ there) in
    subst (λ (q : Queues). matching.IsPassOf i q) (sym same) (subst (λ (q : QueuesPass). matching.IsPassOf q x.queues) (sym is) (own k p place).hints)

-- what came of the queues came of the service's
pub queues-ended : (passes : List Pass) (x : Service) (queues : Queues) → queues ≡ x.queues → (hints : List QueuesPass) → hints ≡ map (λ (p : Pass). p.hints) passes → IsOpened x
    → ((slot : ℕ) → slot < 2 * length (matching.names_of queues) → of_queue.IsEnd (matching.held_at (matching.held_of queues) slot) (matching.given_of queues) (matching.parts_at hints slot))
    → (slot : ℕ) → slot < 2 * length x.settings.queues → of_queue.IsEnd (held_at x slot) x.settings.passes (parts_at passes slot)
queues-ended passes x queues same hints are opened ended slot below =
    let all = rw (same, are) at ended in
    subst (λ (n : ℕ). of_queue.IsEnd (held_at x slot) n (parts_at passes slot)) opened.hint_passes (all slot (omega (arith, below, ap length opened.names)))
