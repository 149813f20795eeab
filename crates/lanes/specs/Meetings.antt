-- MEANING: what a service's passes come to where they are served and where they meet
use Rattle.std.specs.Prelude.{◌≡◌}
use Rattle.gate.specs.Passes.{KeepsOwn, number}
use Rattle.matching.specs.Named.{Met}
use Rattle.service_model_types.specs.declared.call.Call.{Call}
use Rattle.service_model_types.specs.Replies.{Reply}
use Rattle.service.specs.Calls.{CallServed}
use Rattle.service.specs.Headline.{MeetAndAgree}
use Rattle.service.specs.Services.{hints_by, known_by, settings_of}
use Rattle.service.specs.ServiceViews.{Service}
use Rattle.service.specs.ServiceViews.{Pass}

-- a call of a pass was answered so, and the pass keeps its number
pub record PassServed (x : Service) (p p' : Pass) (call : Call) (r : Reply) : Type 0 where
  pub named : number (known_by p') ≡ number (known_by p)
  pub served : CallServed x p p' call r

-- Two passes of a service, p and q, met, and are p' and q' then: they agree, of each task queue they have seen what either had, and
-- each keeps its own steps
pub record PassesMet (x : Service) (p q p' q' : Pass) : Type 0 where
  pub hints : Met (hints_by p) (hints_by q) (hints_by p') (hints_by q')
  pub met : MeetAndAgree (settings_of x).shards (known_by p) (known_by q) (known_by p') (known_by q')
  pub first : KeepsOwn (known_by p) (known_by p')
  pub second : KeepsOwn (known_by q) (known_by q')
