-- what was printed before a fault is a beginning of replies to the lines that were read
use Rattle.std.proofs.Common.{◌≡◌, ℕ, ◌+◌, List, [], ◌∷◌, ◌++◌, length, take, true, false, Option, Some, Result, Ok, inl, inr, refl, sym, ap, subst, ◌∙◌, append-nil, append_assoc, Bool}
use Rattle.std.proofs.lemmas.List.{map-append}
use Rattle.std.specs.Io.KnownBytes.{Appends, Consumes, Keeps}
use Rattle.wf_event_values.specs.declared.refusal.Refusal.{Refusal}
use Rattle.service_model_types.specs.declared.settings.Settings.{Settings}
use Rattle.service_model_types.specs.Replies.{Reply}
use Rattle.service.specs.ServiceViews.{Pass}
use Rattle.wire_requests.specs.declared.calls.Asked.{Asked}
use Rattle.wire_requests.specs.declared.calls.Asked.TheVariants.{Barrier as a_barrier}
use Rattle.script.specs.Asked.{asked}
use Rattle.script.specs.Lines.{Line, all_lines, whole_lines}
use Rattle.script.specs.Output.{numbered_from}
use Rattle.script.specs.Pending.{ended, grown, has_feed, left, is_empty_line}
use Rattle.script.proofs.LineLemmas.{ended-whole}
use Rattle.script.proofs.Steps.{ended-append}
use Rattle.wire_counted.specs.Written.{AppendsBeginning}
use Rattle.wire_counted.proofs.Known.{Consumes-keeps, Consumes-none, Consumes-then, beginning_behind, beginning_of_all, beginning_of_nothing}
use Rattle.lanes.specs.declared.run.LaneScript.{LaneScript}
use Rattle.lanes.specs.Course.{Serves, Meets, InTurn, LineServed, asks_of}
use Rattle.lanes.specs.Endings.{Beginning, Broke, Ended, Halted}
use Rattle.lanes.specs.Lanes.{Took, Waiting, is_barrier, passes_of, place_in}
use Rattle.lanes.specs.ToldLines.{Added, BeginningOf, BeginsLine, BeginsLines, BeginsMore, Point, Progress, Stopped, TellsLine, TellsMore, TextTold, Told, at_start}
use Rattle.lanes.proofs.PhaseLemmas.{Part, phase-part, phase-part-barrier}
use Rattle.lanes.proofs.PrintLemmas.{numbered-append}
use Rattle.lanes.proofs.ToldLemmas.{asks-push, barrier-asked, lines-clean, lines-end, lines-last, next-number, told-longer, waits-more, waits-still}
use Rattle.lanes.proofs.TurnLemmas.{turn-append}

-- what was printed whole is a beginning
pub ended-begun : {serves : Serves} {meets : Meets} {K : Settings} {ps : List Pass} (text : List ℕ) (held held' : Option (List ℕ)) (refused : Bool) (ends : List Pass) → Ended serves meets K ps text held held' refused ends → Beginning serves meets K ps (all_lines text) held held'
ended-begun {serves} {meets} {K} {ps} text held held' refused ends h = record {
  front = asks_of K (all_lines text);
  rest = [];
  replies = h.replies;
  served = h.served;
  parts = sym (append-nil (asks_of K (all_lines text)));
  course = h.course;
  written = beginning_of_all held held' (numbered_from 1 h.replies) h.written;
}

-- it ended alike with passes that are the same
pub ended-same : {serves : Serves} {meets : Meets} {K : Settings} {ps : List Pass} {text : List ℕ} {held held' : Option (List ℕ)} {refused : Bool} {ends ends' : List Pass} → ends' ≡ ends → Ended serves meets K ps text held held' refused ends → Ended serves meets K ps text held held' refused ends'
ended-same {serves} {meets} {K} {ps} {text} {held} {held'} {refused} is h = subst (λ x. Ended serves meets K ps text held held' refused x) (sym is) h

-- a beginning from the start
begun-start : {serves : Serves} {meets : Meets} {K : Settings} {ps : List Pass} {lines : List Line} {held held' : Option (List ℕ)} → BeginningOf serves meets K (at_start ps) lines held held' → Beginning serves meets K ps lines held held'
begun-start b = record { front = b.front; rest = b.rest; replies = b.replies; served = b.served; parts = b.parts; course = b.course; written = b.written }

-- nothing was printed
begins-nothing : {serves : Serves} {meets : Meets} {K : Settings} {pt : Point} (lines : List Line) (held : Option (List ℕ)) → BeginningOf serves meets K pt lines held held
begins-nothing {serves} {meets} {K} {pt} lines held = record { front = []; rest = asks_of K lines; replies = []; served = pt.passes; parts = refl; course = refl; written = beginning_of_nothing held [] }

-- a beginning for some lines is one for more
pub begins-more : {serves : Serves} {meets : Meets} {K : Settings} {pt : Point} (lines more : List Line) (held w : Option (List ℕ)) → BeginningOf serves meets K pt lines held w → BeginningOf serves meets K pt (lines ++ more) held w
begins-more {serves} {meets} {K} {pt} lines more held w b = record {
  front = b.front;
  rest = b.rest ++ asks_of K more;
  replies = b.replies;
  served = b.served;
  parts = map-append (asked K) lines more ∙ ap (λ x. x ++ asks_of K more) b.parts ∙ append_assoc b.front b.rest (asks_of K more);
  course = b.course;
  written = b.written;
}

module _ {Keeper Plan : Type 0} where
  -- the lines before the last barrier were printed
  begins-told : {serves : Serves} {meets : Meets} {K : Settings} {pt : Point} (lines : List Line) (s : LaneScript Keeper Plan) (held w : Option (List ℕ)) → Told serves meets K pt lines s held w → BeginningOf serves meets K pt lines held w
  begins-told {pt = pt} lines s held w h = record {
    front = h.done;
    rest = h.waits;
    replies = h.replies;
    served = passes_of s.lanes.items;
    parts = h.parts;
    course = h.course;
    written = beginning_of_all held w (numbered_from pt.first h.replies) h.written;
  }

both-begun : (start first : ℕ) (rs ss : List (Option Reply)) (held w w' : Option (List ℕ)) → start + length rs ≡ first → Appends held w (numbered_from start rs) → AppendsBeginning w w' (numbered_from first ss) → AppendsBeginning held w' (numbered_from start (rs ++ ss))
both-begun start first rs ss held w w' count h k = rw (numbered-append start rs ss, count) (beginning_behind held w w' (numbered_from start rs) (numbered_from first ss) h k)

module _ {Keeper Plan : Type 0} where
  -- the lines before the last barrier, and the first of those after it
  begins-front : {serves : Serves} {meets : Meets} {K : Settings} {pt : Point} (lines : List Line) (s : LaneScript Keeper Plan) (held w w' : Option (List ℕ)) (more : List (Result Asked Refusal)) (rs : List (Option Reply)) (all : List Line)
      → (h : Told serves meets K pt lines s held w) → asks_of K all ≡ h.done ++ more → Part serves meets (passes_of s.lanes.items) more rs → AppendsBeginning w w' (numbered_from s.first rs) → BeginningOf serves meets K pt all held w'
  begins-front {serves} {meets} {K} {pt} lines s held w w' more rs all h parts part written = record {
    front = h.done ++ part.front;
    rest = part.rest;
    replies = h.replies ++ part.replies;
    served = part.passes;
    parts = parts ∙ ap (λ x. h.done ++ x) part.parts ∙ sym (append_assoc h.done part.front part.rest);
    course = turn-append (LineServed serves meets) pt.passes (passes_of s.lanes.items) part.passes h.done part.front h.replies part.replies h.course part.course;
    written = both-begun pt.first s.first h.replies part.replies held w w' (next-number lines s held w h) h.written (subst (AppendsBeginning w w') (part.text s.first) written);
  }

  -- a phase was not printed whole
  pub begins-phase : {serves : Serves} {meets : Meets} {K : Settings} {pt : Point} (lines : List Line) (s : LaneScript Keeper Plan) (held w w' : Option (List ℕ)) → Stopped serves s w w' → Told serves meets K pt lines s held w → BeginningOf serves meets K pt lines held w'
  begins-phase {serves} {meets} {K} {pt} lines s held w w' (inl same) h = subst (λ x. BeginningOf serves meets K pt lines held x) (sym same) (begins-told lines s held w h)
  begins-phase {serves} {meets} {K} {pt} lines s held w w' (inr p) h =
      let b = p.begun h.waits h.waiting in
      let part = phase-part serves meets s.first h.waits s.places.items b.count b.replies s.lanes.items b.left h.plain h.waiting p.phase (subst (λ x. InTurn Took p.phase.replies (take b.count x) b.replies b.left) h.waiting.places b.took) in
      begins-front lines s held w w' h.waits b.replies lines h h.parts part b.written

  -- nothing was made of some lines
  pub begins-unread : {serves : Serves} {meets : Meets} (K : Settings) (more : List Line) (s : LaneScript Keeper Plan) (w : Option (List ℕ)) → BeginsLines serves meets K more s w w
  begins-unread K more s w pt lines held h = begins-more lines more held w (begins-told lines s held w h)

  -- a line more was read, and nothing printed
  pub begins-line : {serves : Serves} {meets : Meets} {K : Settings} {pt : Point} (lines : List Line) (line : Line) (s : LaneScript Keeper Plan) (held w : Option (List ℕ)) → Told serves meets K pt lines s held w → BeginningOf serves meets K pt (lines ++ line ∷ []) held w
  begins-line lines line s held w h = begins-more lines (line ∷ []) held w (begins-told lines s held w h)

  -- a phase that a barrier ends was not printed whole
  pub begins-barrier : {serves : Serves} {meets : Meets} {K : Settings} {pt : Point} (lines : List Line) (line : Line) (s s1 : LaneScript Keeper Plan) (held w w' : Option (List ℕ)) → Added (asked K line) s s1 → is_barrier (place_in (asked K line)) ≡ true
      → Stopped serves s1 w w' → Told serves meets K pt lines s held w → BeginningOf serves meets K pt (lines ++ line ∷ []) held w'
  begins-barrier {serves} {meets} {K} {pt} lines line s s1 held w w' a barrier (inl same) h = subst (λ x. BeginningOf serves meets K pt (lines ++ line ∷ []) held x) (sym same) (begins-line lines line s held w h)
  begins-barrier {serves} {meets} {K} {pt} lines line s s1 held w w' a barrier (inr p) h =
      let is : asked K line ≡ Ok a_barrier = barrier-asked (asked K line) barrier in
      let all = h.waits ++ Ok a_barrier ∷ [] in
      let waits : Waiting s1.first all s1.places.items s1.lanes.items = subst (λ x. Waiting s1.first (h.waits ++ x ∷ []) s1.places.items s1.lanes.items) is (waits-more (asked K line) h.waits s s1 a h.waiting) in
      let b = p.begun all waits in
      let part = phase-part-barrier serves meets s1.first h.waits s.places.items b.count b.replies s1.lanes.items b.left h.plain (waits-still (asked K line) h.waits s s1 a is h.waiting) p.phase
      (subst (λ x. InTurn Took p.phase.replies (take b.count x) b.replies b.left) waits.places b.took) in
      begins-front lines s held w w' all b.replies (lines ++ line ∷ []) h (asks-push K lines line h.done h.waits h.parts ∙ ap (λ x. h.done ++ (h.waits ++ x ∷ [])) is)
      (subst (λ x. Part serves meets x all b.replies) a.lanes.passes part) (subst (λ n. AppendsBeginning w w' (numbered_from n b.replies)) a.first b.written)

-- ---- texts

-- a beginning for a text is one for a longer text
begins-longer : {serves : Serves} {meets : Meets} {K : Settings} {pt : Point} (a b : List ℕ) (held w : Option (List ℕ)) → BeginningOf serves meets K pt (ended pt.line a) held w → BeginningOf serves meets K pt (ended pt.line (a ++ b)) held w
begins-longer {serves} {meets} {K} {pt} a b held w h = subst (λ ls. BeginningOf serves meets K pt ls held w) (sym (ended-append pt.line a b)) (begins-more (ended pt.line a) (ended (left pt.line a) b) held w h)

module _ {Keeper Plan : Type 0} where
  -- a part that ends a line
  pub begins-end : {serves : Serves} {meets : Meets} {K : Settings} {pt : Point} (text part : List ℕ) (s s1 : LaneScript Keeper Plan) (held w w' : Option (List ℕ)) → has_feed part ≡ false → s1.line ≡ grown s.line part
      → s1.lanes ≡ s.lanes → s1.places ≡ s.places → s1.first ≡ s.first → s1.refused ≡ s.refused → BeginsLine serves meets K s1.line s1 w w'
      → TextTold serves meets K pt text s held w → BeginningOf serves meets K pt (ended pt.line (text ++ (part ++ 10 ∷ []))) held w'
  begins-end {serves} {meets} {K} {pt} text part s s1 held w w' free grows lanes places first refused step h =
      let line : s1.line ≡ grown (left pt.line text) part = grows ∙ ap (λ l. grown l part) h.line in
      subst (λ ls. BeginningOf serves meets K pt ls held w') (sym (lines-end pt.line text part free ∙ ap (λ l. ended pt.line text ++ l ∷ []) (sym line)))
      (step pt (ended pt.line text) held (told-longer (ended pt.line text) s s1 held w lanes places first refused h.told))

  -- a part that nothing was made of
  pub begins-part : {serves : Serves} {meets : Meets} {K : Settings} {pt : Point} (text part : List ℕ) (s : LaneScript Keeper Plan) (held w : Option (List ℕ)) → TextTold serves meets K pt text s held w → BeginningOf serves meets K pt (ended pt.line (text ++ part)) held w
  begins-part {pt = pt} text part s held w h = begins-longer text part held w (begins-told (ended pt.line text) s held w h.told)

-- the parts of a chunk, one after another: `done` was told of, and then a beginning with `part`
pub begins-chunk : {serves : Serves} {meets : Meets} {K : Settings} {pt : Point} (text all done part rest : List ℕ) (held w : Option (List ℕ)) → all ≡ (done ++ part) ++ rest → BeginningOf serves meets K pt (ended pt.line ((text ++ done) ++ part)) held w
    → BeginningOf serves meets K pt (ended pt.line (text ++ all)) held w
begins-chunk {serves} {meets} {K} {pt} text all done part rest held w is b =
    let longer = begins-longer ((text ++ done) ++ part) rest held w b in
    let whole : ((text ++ done) ++ part) ++ rest ≡ text ++ all = ap (λ t. t ++ rest) (append_assoc text done part) ∙ append_assoc text (done ++ part) rest ∙ ap (λ t. text ++ t) (sym is) in
    subst (λ t. BeginningOf serves meets K pt (ended pt.line t) held w) whole longer

-- ---- turns

module _ {Keeper Plan : Type 0} where
  pub broke-reading : {serves : Serves} {meets : Meets} {K : Settings} {ps : List Pass} (s : LaneScript Keeper Plan) (unread held r r' w : Option (List ℕ)) → Keeps r r' → Progress serves meets K (at_start ps) s unread held r w → Broke serves meets K ps unread held r' w
  broke-reading {serves} {meets} {K} {ps} s unread held r r' w keeps p = record {
    text = p.text;
    read = Consumes-keeps unread r r' p.text p.read keeps;
    begun = subst (λ ls. Beginning serves meets K ps ls held w) (ended-whole p.text) (begun-start (begins-told (ended (Some []) p.text) s held w p.told.told));
  }

  pub broke-feeding : {serves : Serves} {meets : Meets} {K : Settings} {ps : List Pass} (s : LaneScript Keeper Plan) (unread held r r' w w' : Option (List ℕ)) (chunk : List ℕ) → Consumes r r' chunk → (p : Progress serves meets K (at_start ps) s unread held r w)
      → BeginningOf serves meets K (at_start ps) (ended (Some []) (p.text ++ chunk)) held w' → Broke serves meets K ps unread held r' w'
  broke-feeding {serves} {meets} {K} {ps} s unread held r r' w w' chunk read p b = record {
    text = p.text ++ chunk;
    read = Consumes-then unread r r' p.text chunk p.read read;
    begun = subst (λ ls. Beginning serves meets K ps ls held w') (ended-whole (p.text ++ chunk)) (begun-start b);
  }

pub nothing-read : {serves : Serves} {meets : Meets} {K : Settings} {ps : List Pass} (unread held : Option (List ℕ)) → Halted serves meets K ps unread held unread held
nothing-read unread held = inl (record { text = []; read = Consumes-none unread; begun = begun-start (begins-nothing (whole_lines []) held) })

-- ---- the end

module _ {Keeper Plan : Type 0} where
  -- after a line feed
  pub begins-clean : {serves : Serves} {meets : Meets} {K : Settings} {ps : List Pass} (text : List ℕ) (s : LaneScript Keeper Plan) (held w w' : Option (List ℕ)) → is_empty_line s.line ≡ true → Stopped serves s w w'
      → TextTold serves meets K (at_start ps) text s held w → Beginning serves meets K ps (all_lines text) held w'
  begins-clean {serves} {meets} {K} {ps} text s held w w' empty stop h =
      subst (λ ls. Beginning serves meets K ps ls held w') (lines-clean text s.line h.line empty) (begun-start (begins-phase (ended (Some []) text) s held w w' stop h.told))

  -- in a last line without its line feed
  pub begins-last : {serves : Serves} {meets : Meets} {K : Settings} {ps : List Pass} (text : List ℕ) (s : LaneScript Keeper Plan) (held w w' : Option (List ℕ)) → is_empty_line s.line ≡ false → BeginsLine serves meets K s.line s w w'
      → TextTold serves meets K (at_start ps) text s held w → Beginning serves meets K ps (all_lines text) held w'
  begins-last {serves} {meets} {K} {ps} text s held w w' some step h =
      subst (λ ls. Beginning serves meets K ps ls held w') (lines-last text s.line h.line some) (begun-start (step (at_start ps) (ended (Some []) text) held h.told))

  -- after it
  pub begins-behind : {serves : Serves} {meets : Meets} {K : Settings} {ps : List Pass} (text : List ℕ) (s s1 : LaneScript Keeper Plan) (held w w1 w' : Option (List ℕ)) → is_empty_line s.line ≡ false → TellsLine serves meets K s.line s s1 w w1 → Stopped serves s1 w1 w'
      → TextTold serves meets K (at_start ps) text s held w → Beginning serves meets K ps (all_lines text) held w'
  begins-behind {serves} {meets} {K} {ps} text s s1 held w w1 w' some step stop h =
      subst (λ ls. Beginning serves meets K ps ls held w') (lines-last text s.line h.line some)
      (begun-start (begins-phase (ended (Some []) text ++ s.line ∷ []) s1 held w1 w' stop (step (at_start ps) (ended (Some []) text) held h.told)))

module _ {Keeper Plan : Type 0} where
  -- a batch that was read was not printed whole
  pub broke-serving : {serves : Serves} {meets : Meets} {K : Settings} {ps : List Pass} (s : LaneScript Keeper Plan) (unread held r w w' : Option (List ℕ)) → Stopped serves s w w' → Progress serves meets K (at_start ps) s unread held r w → Broke serves meets K ps unread held r w'
  broke-serving {serves} {meets} {K} {ps} s unread held r w w' stop p = record {
    text = p.text;
    read = p.read;
    begun = subst (λ ls. Beginning serves meets K ps ls held w') (ended-whole p.text) (begun-start (begins-phase (ended (Some []) p.text) s held w w' stop p.told.told));
  }

  -- a part was told of, and then a beginning of what stands after it
  pub begins-then : {serves : Serves} {meets : Meets} {K : Settings} (a b : List ℕ) (s m : LaneScript Keeper Plan) (w w1 w' : Option (List ℕ)) → TellsMore serves meets K a s m w w1 → BeginsMore serves meets K b m w1 w' → BeginsMore serves meets K (a ++ b) s w w'
  begins-then {serves} {meets} {K} a b s m w w1 w' one two pt text held h = subst (λ t. BeginningOf serves meets K pt (ended pt.line t) held w') (append_assoc text a b) (two pt (text ++ a) held (one pt text held h))

  -- a beginning of a part, and more stands after it
  pub begins-early : {serves : Serves} {meets : Meets} {K : Settings} (a b : List ℕ) (s : LaneScript Keeper Plan) (w w' : Option (List ℕ)) → BeginsMore serves meets K a s w w' → BeginsMore serves meets K (a ++ b) s w w'
  begins-early {serves} {meets} {K} a b s w w' one pt text held h = subst (λ t. BeginningOf serves meets K pt (ended pt.line t) held w') (append_assoc text a b) (begins-longer (text ++ a) b held w' (one pt text held h))

  -- nothing was made of a text
  pub begins-text : {serves : Serves} {meets : Meets} {K : Settings} (a : List ℕ) (s : LaneScript Keeper Plan) (w : Option (List ℕ)) → BeginsMore serves meets K a s w w
  begins-text a s w pt text held h = begins-part text a s held w h

  -- a beginning of the lines of a text that begins a line
  pub begins-lines : {serves : Serves} {meets : Meets} {K : Settings} (part : List ℕ) (s : LaneScript Keeper Plan) (w w' : Option (List ℕ)) → s.line ≡ Some [] → BeginsLines serves meets K (ended (Some []) part) s w w' → BeginsMore serves meets K part s w w'
  begins-lines {serves} {meets} {K} part s w w' begins step pt text held h =
      let so_far : left pt.line text ≡ Some [] = sym h.line ∙ begins in
      let lines : ended pt.line (text ++ part) ≡ ended pt.line text ++ ended (Some []) part = ended-append pt.line text part ∙ ap (λ l. ended pt.line text ++ ended l part) so_far in
      subst (λ ls. BeginningOf serves meets K pt ls held w') (sym lines) (step pt (ended pt.line text) held h.told)
