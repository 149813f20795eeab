-- MEANING: The names of the task queues, as the command line gives them.
use Rattle.std.specs.Prelude.{◌≡◌, ◌<◌, List, [], ◌∷◌, All, Any, length, codes}
use Rattle.std.specs.Option.{MatchOption}
use Rattle.std.specs.List.{join_with_byte}
use Rattle.std.specs.Str.Iter.{LacksByte}
use Rattle.clap.specs.Words.{Row, Text, first_of}
use Rattle.wf_event_values.specs.Limits.{IsIdLength}

-- with commas between them the parts are the text, and none of them has one
pub record IsCutAtCommas (text : Text) (parts : List Text) : Type 0 where
  pub joined : text ≡ join_with_byte 44 parts
  pub cut : All (LacksByte 44) parts
  pub some_part : 0 < length parts

-- the names are the parts of the text that was given, or `main` where none was
abbrev pub AreSetTo : List Row → List Text → Type 0
AreSetTo rows names = MatchOption (first_of (codes "queues") rows) (names ≡ codes "main" ∷ []) (λ text. IsCutAtCommas text names)

-- a part of the text is no name
pub record HasOtherParts (text : Text) : Type 0 where
  pub parts : List Text
  pub cut : IsCutAtCommas text parts
  pub other : Any (λ part. ¬ (IsIdLength (length part))) parts

-- a text was given, and a part of it is no name
abbrev pub HasNoNames : List Row → Type 0
HasNoNames rows = MatchOption (first_of (codes "queues") rows) ⊥ HasOtherParts
