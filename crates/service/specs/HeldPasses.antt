-- MEANING: what a clause reads of a pass that stays on a shard
use Rattle.std.specs.Prelude.{List}
use Rattle.service_model_types.specs.declared.content.Content.{Content}
use Rattle.service_model_types.specs.declared.request.Request.{Request}
use Rattle.service_model_types.specs.Replies.{Reply}
use Rattle.gate.specs.declared.view.View.{View}
use Rattle.shard_gate.specs.GateViews as gates
use Rattle.matching.specs.declared.view.View.{View as HintView}
use Rattle.matching.specs.Named as matching
use Rattle.service.specs.ServiceViews.{Held}
use Rattle.service.specs.ServiceViews.{Service}
use Rattle.service.specs.ServiceViews.{Pass}
use Rattle.service.specs.Services.{known_by, IsOpened, IsServed}

-- what the pass will know once it has left
abbrev pub leaving : Held → View Request Content
leaving h = h.inner.leaving

-- what the pass knows of the hints in each queue
abbrev pub hints_of : Held → List HintView
hints_of h = matching.known_by h.hints

-- the reply that `leave` hands over
abbrev pub promised : Held → Reply
promised h = h.inner.promised

-- the pass is one that this service gave
pub record IsHeldBy (h : Held) (x : Service) : Type 0 where
  pub opened : IsOpened x
  pub own : gates.IsHeldBy h.inner x.gate
  pub hints : matching.IsPassOf h.hints x.queues

-- the request was served to the pass, as far as it knows once it has left
abbrev pub Enters : Service → Pass → Held → Request → Type 0
Enters x p h q = IsServed x (known_by p) (leaving h) q (promised h)
