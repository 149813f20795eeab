-- PROOF: what is printed of a phase: the replies in the order of the lines, each under its line's number
use Rattle.std.specs.Prelude.{◌≡◌, ◌⊎◌, ℕ, List, take, slice_get, Bool, Option, Some, Result}
use Rattle.std.specs.List.{list_any}
use Rattle.std.specs.Io.KnownBytes.{Appends}
use Rattle.wire_counted.specs.Written.{AppendsBeginning}
use Rattle.wf_event_values.specs.declared.refusal.Refusal.{Refusal}
use Rattle.service_model_types.specs.Replies.{Reply}
use Rattle.wire_requests.specs.declared.calls.Asked.{Asked}
use Rattle.script.specs.Serving.{is_refusal, text_of}
use Rattle.script.specs.Output.{numbered_from}
use Rattle.lanes.specs.declared.lane.Lane.{Lane}
use Rattle.lanes.specs.declared.place.Place.{Place}
use Rattle.lanes.specs.Answers.{LineReply}
use Rattle.lanes.specs.Course.{Serves, InTurn}
use Rattle.lanes.specs.Lanes.{AllLeft, AreIdle, Phase, Took, TookIn, Waiting, passes_of}

-- the reply of a call in a lane was taken, and a beginning of it was printed
pub record BegunReply (number lane : ℕ) (rss : List (List LineReply)) (held held' : Option (List ℕ)) : Type 0 where
  pub reply : Reply
  pub left : List (List LineReply)
  pub took : TookIn lane (slice_get rss lane) rss (Some reply) left
  pub written : AppendsBeginning held held' (text_of number (Some reply))

-- it was not taken, and nothing printed; or it was, and a beginning of it was printed
abbrev pub BegunIn : ℕ → ℕ → List (List LineReply) → Option (List ℕ) → Option (List ℕ) → Type 0
BegunIn number lane rss held held' = (held' ≡ held) ⊎ BegunReply number lane rss held held'

-- the replies of the first of these lines were taken, and a beginning of them was printed
pub record Begun (first : ℕ) (ps : List Place) (rss : List (List LineReply)) (held held' : Option (List ℕ)) : Type 0 where
  pub count : ℕ
  pub replies : List (Option Reply)
  pub left : List (List LineReply)
  pub took : InTurn Took rss (take count ps) replies left
  pub written : AppendsBeginning held held' (numbered_from first replies)

module _ {Keeper Plan : Type 0} where
  -- the reply of one line was taken and printed, and the lanes have left the others
  pub record PrintedOne (number : ℕ) (p : Place) (rss : List (List LineReply)) (ls' : List (Lane Keeper Plan)) (refused : Bool)
      (held held' : Option (List ℕ)) : Type 0 where
    pub reply : Option Reply
    pub left : List (List LineReply)
    pub took : Took rss p reply left
    pub kept : AllLeft ls' left
    pub written : Appends held held' (text_of number reply)
    pub refused_is : refused ≡ is_refusal reply

  -- the same of a call in a lane
  pub record PrintedIn (number lane : ℕ) (there : Option (List LineReply)) (rss : List (List LineReply)) (ls' : List (Lane Keeper Plan))
      (refused : Bool) (held held' : Option (List ℕ)) : Type 0 where
    pub reply : Reply
    pub left : List (List LineReply)
    pub took : TookIn lane there rss (Some reply) left
    pub kept : AllLeft ls' left
    pub written : Appends held held' (text_of number (Some reply))
    pub refused_is : refused ≡ is_refusal (Some reply)

  -- the replies of lines, numbered from this one on, were taken one after another, and printed; the lanes have left the others
  pub record Printed (first : ℕ) (ps : List Place) (rss : List (List LineReply)) (ls' : List (Lane Keeper Plan)) (refused : Bool)
      (held held' : Option (List ℕ)) : Type 0 where
    pub replies : List (Option Reply)
    pub left : List (List LineReply)
    pub took : InTurn Took rss ps replies left
    pub kept : AllLeft ls' left
    pub written : Appends held held' (numbered_from first replies)
    pub refused_is : refused ≡ list_any is_refusal replies

  -- a phase was served and printed, where these lines waited, and no lane has a call to make
  pub record PhasePrinted (serves : Serves) (first : ℕ) (ps : List Place) (ls ls' : List (Lane Keeper Plan)) (refused : Bool)
      (held held' : Option (List ℕ)) : Type 0 where
    pub phase : Phase serves ls
    pub printed : (lines : List (Result Asked Refusal)) → Waiting first lines ps ls → Printed first ps phase.replies ls' refused held held'
    pub passes : passes_of ls' ≡ passes_of phase.worked
    pub idle : AreIdle ls'

  -- a phase was served, and a beginning of it was printed
  pub record PhaseBegun (serves : Serves) (first : ℕ) (ps : List Place) (ls : List (Lane Keeper Plan))
      (held held' : Option (List ℕ)) : Type 0 where
    pub phase : Phase serves ls
    pub begun : (lines : List (Result Asked Refusal)) → Waiting first lines ps ls → Begun first ps phase.replies held held'
