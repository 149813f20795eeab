-- PROOF: what a script over lanes has told of its lines
use Rattle.std.specs.Prelude.{◌≡◌, ◌⊎◌, ℕ, ◌+◌, ◌≤◌, List, [], ◌∷◌, ◌++◌, length, map, All, Bool, false, ◌||◌, Option, Some, Result, IfErr, OnErr, OnOk}
use Rattle.std.specs.List.{list_any}
use Rattle.std.specs.Io.KnownBytes.{Appends, Consumes}
use Rattle.wire_counted.specs.Written.{AppendsBeginning}
use Rattle.wire_counted.specs.declared.counted.Counted.{Counted}
use Rattle.wf_event_values.specs.Gives.{Gives}
use Rattle.wf_event_values.specs.declared.refusal.Refusal.{Refusal}
use Rattle.service_model_types.specs.declared.settings.Settings.{Settings}
use Rattle.service_model_types.specs.Replies.{Reply}
use Rattle.service.specs.ServiceViews.{Pass}
use Rattle.wire_requests.specs.declared.calls.Asked.{Asked}
use Rattle.script.specs.declared.fault.ScriptFault.{ScriptFault}
use Rattle.script.specs.Asked.{asked}
use Rattle.script.specs.Endings.{IsWriteFault}
use Rattle.script.specs.Lines.{Line, all_lines}
use Rattle.script.specs.Pending.{ended, last, left}
use Rattle.script.specs.Serving.{is_refusal}
use Rattle.script.specs.Output.{numbered_from}
use Rattle.lanes.specs.declared.run.LaneScript.{LaneScript}
use Rattle.lanes.specs.Calls.{number_at}
use Rattle.lanes.specs.Course.{AllMet, Serves, Meets, Course, asks_of}
use Rattle.lanes.specs.declared.reading.Reader.{Reader}
use Rattle.lanes.specs.Endings.{Beginning, Broke, Ended}
use Rattle.lanes.specs.Found.{AllRead, lines_of}
use Rattle.lanes.specs.Lanes.{ArePlain, Waiting, WereAsked, calls_in, calls_of, own_calls, passes_of, place_in}
use Rattle.lanes.specs.Printed.{PhaseBegun, PhasePrinted}

-- A point of a script where no line waits: the passes there, the number of the next line, whether a reply before it was a refusal, and
-- what was read of that line
pub record Point : Type 0 where
  pub passes : List Pass
  pub first : ℕ
  pub refused : Bool
  pub line : Line

-- the one before the first line
abbrev pub at_start : List Pass → Point
at_start ps = record { passes = ps; first = 1; refused = false; line = Some [] }

-- the first of these lines were served one after another, and a beginning of their replies was printed
pub record BeginningOf (serves : Serves) (meets : Meets) (K : Settings) (b : Point) (lines : List Line)
    (held held' : Option (List ℕ)) : Type 0 where
  pub front : List (Result Asked Refusal)
  pub rest : List (Result Asked Refusal)
  pub replies : List (Option Reply)
  pub served : List Pass
  pub parts : asks_of K lines ≡ front ++ rest
  pub course : Course serves meets b.passes front replies served
  pub written : AppendsBeginning held held' (numbered_from b.first replies)

module _ {Keeper Plan : Type 0} where
  -- the first of these lines were served and printed, and those after them wait
  pub record Told (serves : Serves) (meets : Meets) (K : Settings) (b : Point) (lines : List Line) (s : LaneScript Keeper Plan)
      (held held' : Option (List ℕ)) : Type 0 where
    pub done : List (Result Asked Refusal)
    pub waits : List (Result Asked Refusal)
    pub replies : List (Option Reply)
    pub parts : asks_of K lines ≡ done ++ waits
    pub course : Course serves meets b.passes done replies (passes_of s.lanes.items)
    pub waiting : Waiting s.first waits s.places.items s.lanes.items
    pub plain : ArePlain waits
    pub written : Appends held held' (numbered_from b.first replies)
    pub number : s.first ≡ b.first + length done
    pub refused_is : s.refused ≡ (b.refused || list_any is_refusal replies)

  -- what it has told of a text so far
  pub record TextTold (serves : Serves) (meets : Meets) (K : Settings) (b : Point) (text : List ℕ) (s : LaneScript Keeper Plan)
      (held held' : Option (List ℕ)) : Type 0 where
    pub line : s.line ≡ left b.line text
    pub told : Told serves meets K b (ended b.line text) s held held'

  -- some text was read, and told of
  pub record Progress (serves : Serves) (meets : Meets) (K : Settings) (b : Point) (s : LaneScript Keeper Plan)
      (unread held unread' held' : Option (List ℕ)) : Type 0 where
    pub text : List ℕ
    pub read : Consumes unread unread' text
    pub told : TextTold serves meets K b text s held held'

  -- the script stands at this point
  pub record IsAtPoint (b : Point) (s : LaneScript Keeper Plan) : Type 0 where
    pub passes : passes_of s.lanes.items ≡ b.passes
    pub waiting : Waiting s.first [] s.places.items s.lanes.items
    pub first : s.first ≡ b.first
    pub refused : s.refused ≡ b.refused
    pub line : s.line ≡ b.line

  -- nothing was read, and no line waits
  abbrev pub Opened : List Pass → LaneScript Keeper Plan → Type 0
  Opened ps s = IsAtPoint (at_start ps) s

  -- one line more waits, which asks this
  pub record Added (ask : Result Asked Refusal) (s s' : LaneScript Keeper Plan) : Type 0 where
    pub places : s'.places.items ≡ s.places.items ++ place_in ask ∷ []
    pub lanes : WereAsked (λ k. own_calls k (number_at s.first (length s.places.items)) ask) s.lanes.items s'.lanes.items
    pub first : s'.first ≡ s.first
    pub refused : s'.refused ≡ s.refused
    pub line : s'.line ≡ s.line

  -- lines more wait, which ask this
  pub record AddedAll (asks : List (Result Asked Refusal)) (s s' : LaneScript Keeper Plan) : Type 0 where
    pub places : s'.places.items ≡ s.places.items ++ map place_in asks
    pub lanes : WereAsked (λ k. calls_in k (λ i. number_at s.first (length s.places.items + i)) asks) s.lanes.items s'.lanes.items
    pub first : s'.first ≡ s.first
    pub refused : s'.refused ≡ s.refused
    pub line : s'.line ≡ s.line

  -- what waited was served and printed: nothing waits
  pub record Served (serves : Serves) (s s' : LaneScript Keeper Plan) (held held' : Option (List ℕ)) : Type 0 where
    pub refused : Bool
    pub printed : PhasePrinted serves s.first s.places.items s.lanes.items s'.lanes.items refused held held'
    pub first : s'.first ≡ s.first + length s.places.items
    pub places : s'.places.items ≡ []
    pub refused_is : s'.refused ≡ (s.refused || refused)
    pub line : s'.line ≡ s.line

  -- the first lane met every other twice, and nothing else changed
  pub record Met (meets : Meets) (s s' : LaneScript Keeper Plan) : Type 0 where
    pub met : AllMet meets (passes_of s.lanes.items) (passes_of s'.lanes.items)
    pub asked : map calls_of s'.lanes.items ≡ map calls_of s.lanes.items
    pub first : s'.first ≡ s.first
    pub places : s'.places.items ≡ s.places.items
    pub refused : s'.refused ≡ s.refused
    pub line : s'.line ≡ s.line

  -- what waited was served and printed, and then the first lane met every other
  pub record Closed (serves : Serves) (meets : Meets) (s s' : LaneScript Keeper Plan) (held held' : Option (List ℕ)) : Type 0 where
    pub between : LaneScript Keeper Plan
    pub served : Served serves s between held held'
    pub met : Met meets between s'

  -- nothing waited, and nothing was done
  pub record Unchanged (s s' : LaneScript Keeper Plan) (held held' : Option (List ℕ)) : Type 0 where
    pub same : s' ≡ s
    pub kept : held' ≡ held

  -- what waited was served and printed, where anything did
  abbrev pub ServedIfAny : Serves → (LaneScript Keeper Plan) → (LaneScript Keeper Plan) → Option (List ℕ) → Option (List ℕ) → Type 0
  ServedIfAny serves s s' held held' = Unchanged s s' held held' ⊎ Served serves s s' held held'

  -- what waited was not served; or it was, and a beginning of it was printed
  abbrev pub Stopped : Serves → (LaneScript Keeper Plan) → (held held' : Option (List ℕ)) → Type 0
  Stopped serves s held held' = (held' ≡ held) ⊎ PhaseBegun serves s.first s.places.items s.lanes.items held held'

-- ---- a step of the script, whatever was told before it

module _ {Keeper Plan : Type 0} where
  -- all was told of the lines before, and then of this one too
  abbrev pub TellsLine : Serves → Meets → Settings → Line → (LaneScript Keeper Plan) → (LaneScript Keeper Plan) → Option (List ℕ)
      → Option (List ℕ) → Type 0
  TellsLine serves meets K line s s' w w' = (b : Point) (lines : List Line) (held : Option (List ℕ))
      → Told serves meets K b lines s held w → Told serves meets K b (lines ++ line ∷ []) s' held w'

  -- likewise of a line of which this was found: what it asks, or out of memory
  abbrev pub TellsFound : Serves → Meets → Result Asked Refusal → (LaneScript Keeper Plan) → (LaneScript Keeper Plan)
      → Option (List ℕ) → Option (List ℕ) → Type 0
  TellsFound serves meets found s s' w w' = (K : Settings) (line : Line) → Gives found (asked K line)
      → TellsLine serves meets K line s s' w w'

  -- all was told of the lines before, and then of these too
  abbrev pub TellsLines : Serves → Meets → Settings → List Line → (LaneScript Keeper Plan) → (LaneScript Keeper Plan) → Option (List ℕ)
      → Option (List ℕ) → Type 0
  TellsLines serves meets K more s s' w w' = (b : Point) (lines : List Line) (held : Option (List ℕ))
      → Told serves meets K b lines s held w → Told serves meets K b (lines ++ more) s' held w'

  -- likewise of whatever lines were read so
  abbrev pub TellsAny : (Settings → List Line → Type 0) → Serves → Meets → (LaneScript Keeper Plan) → (LaneScript Keeper Plan)
      → Option (List ℕ) → Option (List ℕ) → Type 0
  TellsAny Reads serves meets s s' w w' = (K : Settings) (lines : List Line) → Reads K lines → TellsLines serves meets K lines s s' w w'

  -- likewise of the lines that these readers have read, one reader's after another's
  abbrev pub TellsRead : List Reader → Serves → Meets → (LaneScript Keeper Plan) → (LaneScript Keeper Plan) → Option (List ℕ)
      → Option (List ℕ) → Type 0
  TellsRead readers serves meets s s' w w' = (K : Settings) (parts : List (List Line)) → AllRead K readers parts
      → TellsLines serves meets K (lines_of parts) s s' w w'

  -- all was told of the lines before, and then a beginning
  abbrev pub BeginsLine : Serves → Meets → Settings → Line → (LaneScript Keeper Plan) → Option (List ℕ) → Option (List ℕ) → Type 0
  BeginsLine serves meets K line s w w' = (b : Point) (lines : List Line) (held : Option (List ℕ))
      → Told serves meets K b lines s held w → BeginningOf serves meets K b (lines ++ line ∷ []) held w'

  -- likewise with a line of which this was found
  abbrev pub BeginsFound : Serves → Meets → Result Asked Refusal → (LaneScript Keeper Plan) → Option (List ℕ)
      → Option (List ℕ) → Type 0
  BeginsFound serves meets found s w w' = (K : Settings) (line : Line) → Gives found (asked K line) → BeginsLine serves meets K line s w w'

  -- all was told of the lines before, and then a beginning with these
  abbrev pub BeginsLines : Serves → Meets → Settings → List Line → (LaneScript Keeper Plan) → Option (List ℕ) → Option (List ℕ) → Type 0
  BeginsLines serves meets K more s w w' = (b : Point) (lines : List Line) (held : Option (List ℕ))
      → Told serves meets K b lines s held w → BeginningOf serves meets K b (lines ++ more) held w'

  -- likewise with whatever lines were read so
  abbrev pub BeginsAny : (Settings → List Line → Type 0) → Serves → Meets → (LaneScript Keeper Plan) → Option (List ℕ)
      → Option (List ℕ) → Type 0
  BeginsAny Reads serves meets s w w' = (K : Settings) (lines : List Line) → Reads K lines → BeginsLines serves meets K lines s w w'

  -- likewise with the lines that these readers have read
  abbrev pub BeginsRead : List Reader → Serves → Meets → (LaneScript Keeper Plan) → Option (List ℕ) → Option (List ℕ) → Type 0
  BeginsRead readers serves meets s w w' = (K : Settings) (parts : List (List Line)) → AllRead K readers parts
      → BeginsLines serves meets K (lines_of parts) s w w'

  -- all was told of a text, and then of these bytes more
  abbrev pub TellsMore : Serves → Meets → Settings → List ℕ → (LaneScript Keeper Plan) → (LaneScript Keeper Plan) → Option (List ℕ)
      → Option (List ℕ) → Type 0
  TellsMore serves meets K more s s' w w' = (b : Point) (text : List ℕ) (held : Option (List ℕ))
      → TextTold serves meets K b text s held w → TextTold serves meets K b (text ++ more) s' held w'

  -- all was told of a text, and then a beginning of it with these bytes
  abbrev pub BeginsMore : Serves → Meets → Settings → List ℕ → (LaneScript Keeper Plan) → Option (List ℕ) → Option (List ℕ) → Type 0
  BeginsMore serves meets K more s w w' = (b : Point) (text : List ℕ) (held : Option (List ℕ))
      → TextTold serves meets K b text s held w → BeginningOf serves meets K b (ended b.line (text ++ more)) held w'

  -- some text was read and told of, and then more of it
  abbrev pub ReadsOn : Serves → Meets → Settings → (LaneScript Keeper Plan) → (LaneScript Keeper Plan) → (r r' w w' : Option (List ℕ))
      → Type 0
  ReadsOn serves meets K s s' r r' w w' = (b : Point) (unread held : Option (List ℕ))
      → Progress serves meets K b s unread held r w → Progress serves meets K b s' unread held r' w'

  -- some text was read and told of, and then a beginning of more
  abbrev pub Breaks : Serves → Meets → Settings → (LaneScript Keeper Plan) → (r r' w w' : Option (List ℕ)) → Type 0
  Breaks serves meets K s r r' w w' = (ps : List Pass) (unread held : Option (List ℕ))
      → Progress serves meets K (at_start ps) s unread held r w → Broke serves meets K ps unread held r' w'

  -- all was told of a text, and then of a last line without its line feed, where there is one
  abbrev pub EndsInput : Serves → Meets → Settings → (LaneScript Keeper Plan) → (LaneScript Keeper Plan) → Option (List ℕ)
      → Option (List ℕ) → Type 0
  EndsInput serves meets K s s' w w' = (b : Point) (text : List ℕ) (held : Option (List ℕ))
      → TextTold serves meets K b text s held w → Told serves meets K b (ended b.line text ++ last (left b.line text)) s' held w'

  -- all was told of a text, and then of its last line too
  abbrev pub TellsAll : Serves → Meets → Settings → (LaneScript Keeper Plan) → (LaneScript Keeper Plan) → Option (List ℕ)
      → Option (List ℕ) → Type 0
  TellsAll serves meets K s s' w w' = (ps : List Pass) (text : List ℕ) (held : Option (List ℕ))
      → TextTold serves meets K (at_start ps) text s held w → Ended serves meets K ps text held w' s'.refused (passes_of s'.lanes.items)

  -- all was told of a text, and then a beginning of all its lines
  abbrev pub BeginsAll : Serves → Meets → Settings → (LaneScript Keeper Plan) → Option (List ℕ) → Option (List ℕ) → Type 0
  BeginsAll serves meets K s w w' = (ps : List Pass) (text : List ℕ) (held : Option (List ℕ))
      → TextTold serves meets K (at_start ps) text s held w → Beginning serves meets K ps (all_lines text) held w'

module _ {Keeper Plan X : Type 0} where
  -- How a call on the script ends, whatever it does: each lane's pass may be served on, what has to be told was told where the
  -- call went well, it was begun where not, and a fault of the writer comes only where a write failed in the call
  pub record Ends (admits : Pass → Type 0) (contents : X → Option (List ℕ)) (writer writer' : Counted X) (s' : LaneScript Keeper Plan)
      (Tells : LaneScript Keeper Plan → Option (List ℕ) → Option (List ℕ) → Type 0)
      (Begins : Option (List ℕ) → Option (List ℕ) → Type 0) (result : Result (Unit {0}) ScriptFault) : Type 0 where
    pub own : All (λ l. admits l.pass) s'.lanes.items
    pub told : OnOk result (Tells s' (contents writer.inner) (contents writer'.inner))
    pub begun : OnErr result (Begins (contents writer.inner) (contents writer'.inner))
    pub grows : writer.failures ≤ writer'.failures
    pub fault : IfErr result (λ e. IsWriteFault e writer.failures writer'.failures)
