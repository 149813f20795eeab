-- PROOF: what readers found lines to be
use Rattle.std.specs.Prelude.{◌≡◌, ℕ, ◌≤◌, All, List, [], ◌∷◌, ◌++◌, length, Result, Some, false, slice_range}
use Rattle.std.specs.List.{flat_map}
use Rattle.wf_event_values.specs.Gives.{Gives}
use Rattle.wf_event_values.specs.declared.refusal.Refusal.{Refusal}
use Rattle.service_model_types.specs.declared.settings.Settings.{Settings}
use Rattle.wire_requests.specs.declared.calls.Asked.{Asked}
use Rattle.script.specs.Asked.{asked}
use Rattle.script.specs.Lines.{Line}
use Rattle.script.specs.Pending.{ended, left}
use Rattle.lanes.specs.declared.reading.Reader.{Reader}
use Rattle.lanes.specs.declared.sorted.Sorted.{Sorted}
use Rattle.lanes.specs.Course.{asks_of}
use Rattle.lanes.specs.Lanes.{ArePlain}
use Rattle.lanes.specs.Sorted.{IsSorted}

-- each of these was found of the line at its place
abbrev pub AreFound : Settings → List (Result Asked Refusal) → List Line → Type 0
AreFound K [] [] = Unit {0}
AreFound K [] (line ∷ lines) = ⊥
AreFound K (found ∷ more) [] = ⊥
AreFound K (found ∷ more) (line ∷ lines) = Gives found (asked K line) × AreFound K more lines

-- the first of these lines are sorted, none of them a barrier, and of those after them it was found what they ask
pub record AreRead (K : Settings) (s : Sorted) (found : List (Result Asked Refusal)) (lines : List Line) : Type 0 where
  pub front : List Line
  pub back : List Line
  pub parts : lines ≡ front ++ back
  pub sorted : IsSorted (asks_of K front) s
  pub plain : ArePlain (asks_of K front)
  pub waits : AreFound K found back

-- the lines that end in a text, of which the last byte ends one
abbrev pub lines_in : List ℕ → List Line
lines_in text = ended (Some []) text

abbrev pub EndsLines : List ℕ → Type 0
EndsLines text = left (Some []) text ≡ Some []

-- the part of a text that a reader reads
abbrev pub part_of : List ℕ → Reader → List ℕ
part_of text r = slice_range text r.from r.to

-- it lies within the text, and ends a line
pub record IsGiven (text : List ℕ) (r : Reader) : Type 0 where
  pub begins : r.from ≤ r.to
  pub ends : r.to ≤ length text
  pub whole : EndsLines (part_of text r)

abbrev pub AllGiven : List ℕ → List Reader → Type 0
AllGiven text readers = All (IsGiven text) readers

-- the parts of readers, one after the other
abbrev pub parts_of : List ℕ → List Reader → List ℕ
parts_of text readers = flat_map (part_of text) readers

-- a reader has read these lines, unless memory ran out
abbrev pub IsRead : Settings → Reader → List Line → Type 0
IsRead K r lines = r.failed ≡ false → AreRead K r.sorted r.found.items lines

-- a reader has read its part
abbrev pub HasRead : Settings → List ℕ → Reader → Reader → Type 0
HasRead K text r r' = IsRead K r' (lines_in (part_of text r))

-- each reader has read its own of these lines
abbrev pub AllRead : Settings → List Reader → List (List Line) → Type 0
AllRead K [] [] = Unit {0}
AllRead K [] (lines ∷ more) = ⊥
AllRead K (r ∷ readers) [] = ⊥
AllRead K (r ∷ readers) (lines ∷ more) = IsRead K r lines × AllRead K readers more

-- lines of several readers, one after the other
abbrev pub lines_of : List (List Line) → List Line
lines_of parts = flat_map (λ (lines : List Line). lines) parts
