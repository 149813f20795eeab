-- MEANING: how a script over several lanes ends
use Rattle.std.specs.Prelude.{◌≡◌, ◌⊎◌, ℕ, List, ◌++◌, Bool, Option, Result}
use Rattle.std.specs.List.{list_any}
use Rattle.std.specs.Io.KnownBytes.{Appends, Consumes, IsAtEnd}
use Rattle.wire_counted.specs.Written.{AppendsBeginning}
use Rattle.wf_event_values.specs.declared.refusal.Refusal.{Refusal}
use Rattle.service_model_types.specs.declared.settings.Settings.{Settings}
use Rattle.service_model_types.specs.Replies.{Reply}
use Rattle.service.specs.ServiceViews.{Pass}
use Rattle.wire_requests.specs.declared.calls.Asked.{Asked}
use Rattle.script.specs.Lines.{Line, all_lines, whole_lines}
use Rattle.script.specs.Serving.{is_refusal}
use Rattle.script.specs.Output.{numbered_from}
use Rattle.lanes.specs.Course.{Serves, Meets, AllMet, Course, asks_of}

-- All lines of a text were served one after another, from these passes on, and at the end the first pass met every
-- other as at a barrier, after which the passes are these.
-- Just the replies of that course were printed, each under its line's number, and `refused` says whether one of them is a refusal.
pub record Ended (serves : Serves) (meets : Meets) (K : Settings) (ps : List Pass) (text : List ℕ) (held held' : Option (List ℕ))
    (refused : Bool) (ends : List Pass) : Type 0 where
  pub replies : List (Option Reply)
  pub served : List Pass
  pub course : Course serves meets ps (asks_of K (all_lines text)) replies served
  pub met : AllMet meets served ends
  pub written : Appends held held' (numbered_from 1 replies)
  pub refused_is : refused ≡ list_any is_refusal replies

-- the input was read to its end, and all its lines were served
pub record Ran (serves : Serves) (meets : Meets) (K : Settings) (ps : List Pass) (unread held unread' held' : Option (List ℕ))
    (refused : Bool) (ends : List Pass) : Type 0 where
  pub text : List ℕ
  pub read : Consumes unread unread' text
  pub at_end : IsAtEnd unread'
  pub told : Ended serves meets K ps text held held' refused ends

-- the first of these lines were served one after another, and a beginning of their replies was printed
pub record Beginning (serves : Serves) (meets : Meets) (K : Settings) (ps : List Pass) (lines : List Line)
    (held held' : Option (List ℕ)) : Type 0 where
  pub front : List (Result Asked Refusal)
  pub rest : List (Result Asked Refusal)
  pub replies : List (Option Reply)
  pub served : List Pass
  pub parts : asks_of K lines ≡ front ++ rest
  pub course : Course serves meets ps front replies served
  pub written : AppendsBeginning held held' (numbered_from 1 replies)

-- some input was read, and a beginning of replies to its whole lines was written
pub record Broke (serves : Serves) (meets : Meets) (K : Settings) (ps : List Pass)
    (unread held unread' held' : Option (List ℕ)) : Type 0 where
  pub text : List ℕ
  pub read : Consumes unread unread' text
  pub begun : Beginning serves meets K ps (whole_lines text) held held'

-- the input was read to its end, and a beginning of replies to its lines was written
pub record BrokeAtEnd (serves : Serves) (meets : Meets) (K : Settings) (ps : List Pass)
    (unread held unread' held' : Option (List ℕ)) : Type 0 where
  pub text : List ℕ
  pub read : Consumes unread unread' text
  pub at_end : IsAtEnd unread'
  pub begun : Beginning serves meets K ps (all_lines text) held held'

abbrev pub Halted : Serves → Meets → Settings → List Pass → (unread held unread' held' : Option (List ℕ)) → Type 0
Halted serves meets K ps unread held unread' held' = Broke serves meets K ps unread held unread' held'
    ⊎ BrokeAtEnd serves meets K ps unread held unread' held'
