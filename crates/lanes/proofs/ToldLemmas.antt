-- what a script over lanes has told, line by line
use Rattle.std.proofs.Common.{◌≡◌, ◌⊎◌, inl, inr, ℕ, ◌+◌, List, [], ◌∷◌, ◌++◌, length, map, true, false, cond, Bool, ◌||◌, Option, Some, Result, Ok, Err, refl, sym, ap, subst, ◌∙◌, append_assoc, arith}
use Rattle.std.proofs.lemmas.List.{append-nil, length-append, length-map, map-append}
use Rattle.std.proofs.lemmas.Bool.{or_from, or_parts, true≢false}
use Rattle.std.specs.List.{list_any}
use Rattle.std.specs.Io.KnownBytes.{Appends}
use Rattle.wf_event_values.specs.declared.refusal.Refusal.{Refusal}
use Rattle.service_model_types.specs.declared.settings.Settings.{Settings}
use Rattle.service_model_types.specs.Replies.{Reply}
use Rattle.service.specs.ServiceViews.{Pass}
use Rattle.wire_requests.specs.declared.calls.Asked.{Asked}
use Rattle.wire_requests.specs.declared.calls.Asked.TheVariants.{Barrier as a_barrier, Call as in_a_lane}
use Rattle.script.specs.Asked.{asked}
use Rattle.script.specs.Lines.{Line, all_lines}
use Rattle.script.specs.Output.{numbered_from}
use Rattle.script.specs.Pending.{ended, grown, has_feed, left, is_empty_line}
use Rattle.script.specs.Serving.{is_refusal}
use Rattle.script.proofs.LineLemmas.{ended-all}
use Rattle.script.proofs.PartLemmas.{ended-free, ended-line as line-ended, left-free, left-line}
use Rattle.script.proofs.Steps.{ended-append, left-append}
use Rattle.wire_counted.proofs.Known.{Appends-none, Appends-then}
use Rattle.lanes.specs.declared.run.LaneScript.{LaneScript}
use Rattle.lanes.specs.Course.{AllMet, Serves, Meets, Course, InTurn, LineServed, asks_of}
use Rattle.lanes.specs.Calls.{number_at}
use Rattle.lanes.specs.Endings.{Ended}
use Rattle.lanes.specs.Lanes.{ArePlain, Took, Waiting, WereAsked, is_barrier, own_calls, passes_of, place_in}
use Rattle.lanes.specs.ToldLines.{Added, AddedAll, Closed, IsAtPoint, Point, at_start, Served, TellsLine, TellsLines, TellsMore, TextTold, Told, Unchanged}
use Rattle.lanes.proofs.PhaseLemmas.{phase-barrier, phase-whole}
use Rattle.lanes.proofs.PrintLemmas.{any-append, numbered-append}
use Rattle.lanes.proofs.TurnLemmas.{turn-append, turn-count}
use Rattle.lanes.proofs.WorkLemmas.{idle-same, waiting-all, waiting-more, waiting-same}

-- ---- lines

pub asks-push : (K : Settings) (lines : List Line) (line : Line) (done waits : List (Result Asked Refusal)) → asks_of K lines ≡ done ++ waits → asks_of K (lines ++ line ∷ []) ≡ done ++ (waits ++ asked K line ∷ [])
asks-push K lines line done waits parts = map-append (asked K) lines (line ∷ []) ∙ ap (λ x. x ++ asked K line ∷ []) parts ∙ append_assoc done waits (asked K line ∷ [])

pub plain-push : (lines : List (Result Asked Refusal)) (ask : Result Asked Refusal) → ArePlain lines → is_barrier (place_in ask) ≡ false → ArePlain (lines ++ ask ∷ [])
plain-push [] ask h no_barrier = or_from (is_barrier (place_in ask)) false no_barrier refl
plain-push (line ∷ lines) ask h no_barrier =
    let parts = or_parts (is_barrier (place_in line)) (list_any is_barrier (map place_in lines)) h in
    or_from (is_barrier (place_in line)) (list_any is_barrier (map place_in (lines ++ ask ∷ []))) parts.0 (plain-push lines ask parts.1 no_barrier)

-- a line whose place is a barrier's asks for one
pub barrier-asked : (ask : Result Asked Refusal) → is_barrier (place_in ask) ≡ true → ask ≡ Ok a_barrier
barrier-asked (Ok a_barrier) is = refl
barrier-asked (Ok (in_a_lane c)) is = absurd (true≢false (sym is))
barrier-asked (Err refusal) is = absurd (true≢false (sym is))

add-nothing : (n : ℕ) → n + 0 ≡ n
add-nothing n = omega arith

or-nothing : (x : Bool) → (x || false) ≡ x
or-nothing true = refl
or-nothing false = refl

module _ {Keeper Plan : Type 0} where
  -- the number of the next line
  pub next-number : {serves : Serves} {meets : Meets} {K : Settings} {pt : Point} (lines : List Line) (s : LaneScript Keeper Plan) (held w : Option (List ℕ)) → (h : Told serves meets K pt lines s held w) → pt.first + length h.replies ≡ s.first
  next-number {serves} {meets} {K} {pt} lines s held w h = ap (λ n. pt.first + n) (sym (turn-count (LineServed serves meets) pt.passes (passes_of s.lanes.items) h.done h.replies h.course)) ∙ sym h.number

both-written : (start first : ℕ) (rs ss : List (Option Reply)) (held w w' : Option (List ℕ)) → start + length rs ≡ first → Appends held w (numbered_from start rs) → Appends w w' (numbered_from first ss) → Appends held w' (numbered_from start (rs ++ ss))
both-written start first rs ss held w w' count h k = rw (numbered-append start rs ss, count) (Appends-then held w w' (numbered_from start rs) (numbered_from first ss) h k)

or-assoc : (x y z : Bool) → ((x || y) || z) ≡ (x || (y || z))
or-assoc true y z = refl
or-assoc false y z = refl

both-refused : (was a b c : Bool) (rs ss : List (Option Reply)) → c ≡ (a || b) → a ≡ (was || list_any is_refusal rs) → b ≡ list_any is_refusal ss → c ≡ (was || list_any is_refusal (rs ++ ss))
both-refused was a b c rs ss is first second =
    is ∙ ap (λ x. x || b) first ∙ or-assoc was (list_any is_refusal rs) b ∙ ap (λ x. was || (list_any is_refusal rs || x)) second ∙ ap (λ x. was || x) (sym (any-append rs ss))

-- ---- steps

module _ {Keeper Plan : Type 0} where
  -- one line more waits
  pub waits-more : (ask : Result Asked Refusal) (waits : List (Result Asked Refusal)) (s s' : LaneScript Keeper Plan) → Added ask s s' → Waiting s.first waits s.places.items s.lanes.items → Waiting s'.first (waits ++ ask ∷ []) s'.places.items s'.lanes.items
  waits-more ask waits s s' a w =
      subst (λ n. Waiting n (waits ++ ask ∷ []) s'.places.items s'.lanes.items) (sym a.first) (waiting-more s.first waits ask s.places.items s'.places.items s.lanes.items s'.lanes.items a.places a.lanes w)

  -- and where it is a barrier, each lane has the same calls
  pub waits-still : (ask : Result Asked Refusal) (waits : List (Result Asked Refusal)) (s s' : LaneScript Keeper Plan) → Added ask s s' → ask ≡ Ok a_barrier → Waiting s.first waits s.places.items s.lanes.items → Waiting s'.first waits s.places.items s'.lanes.items
  waits-still ask waits s s' a is w =
      let n = number_at s.first (length s.places.items) in
      subst (λ n. Waiting n waits s.places.items s'.lanes.items) (sym a.first)
      (waiting-same s.first n waits s.places.items s.lanes.items s'.lanes.items (subst (λ x. WereAsked (λ k. own_calls k n x) s.lanes.items s'.lanes.items) is a.lanes) w)

  -- at a point, before the next byte
  pub told-nothing : {serves : Serves} {meets : Meets} {K : Settings} (pt : Point) (held : Option (List ℕ)) (s : LaneScript Keeper Plan) → IsAtPoint pt s → TextTold serves meets K pt [] s held held
  unfolding ended left
  told-nothing pt held s o = record {
    line = o.line;
    told = record {
      done = [];
      waits = [];
      replies = [];
      parts = refl;
      course = o.passes;
      waiting = o.waiting;
      plain = refl;
      written = Appends-none held;
      number = o.first ∙ sym (add-nothing pt.first);
      refused_is = o.refused ∙ sym (or-nothing pt.refused);
    };
  }

  -- one line more waits
  pub told-line : {serves : Serves} {meets : Meets} {K : Settings} {pt : Point} (lines : List Line) (line : Line) (s s' : LaneScript Keeper Plan) (held w : Option (List ℕ)) → Added (asked K line) s s' → is_barrier (place_in (asked K line)) ≡ false
      → Told serves meets K pt lines s held w → Told serves meets K pt (lines ++ line ∷ []) s' held w
  told-line {serves} {meets} {K} {pt} lines line s s' held w a no_barrier h = record {
    done = h.done;
    waits = h.waits ++ asked K line ∷ [];
    replies = h.replies;
    parts = asks-push K lines line h.done h.waits h.parts;
    course = subst (λ x. Course serves meets pt.passes h.done h.replies x) (sym a.lanes.passes) h.course;
    waiting = waits-more (asked K line) h.waits s s' a h.waiting;
    plain = plain-push h.waits (asked K line) h.plain no_barrier;
    written = h.written;
    number = a.first ∙ h.number;
    refused_is = a.refused ∙ h.refused_is;
  }

plain-append : (lines asks : List (Result Asked Refusal)) → ArePlain lines → ArePlain asks → ArePlain (lines ++ asks)
plain-append [] asks h k = k
plain-append (line ∷ lines) asks h k =
    let parts = or_parts (is_barrier (place_in line)) (list_any is_barrier (map place_in lines)) h in
    or_from (is_barrier (place_in line)) (list_any is_barrier (map place_in (lines ++ asks))) parts.0 (plain-append lines asks parts.1 k)

module _ {Keeper Plan : Type 0} where
  -- more lines wait
  pub told-all : {serves : Serves} {meets : Meets} {K : Settings} {pt : Point} (lines more : List Line) (s s' : LaneScript Keeper Plan) (held w : Option (List ℕ)) → AddedAll (asks_of K more) s s' → ArePlain (asks_of K more)
      → Told serves meets K pt lines s held w → Told serves meets K pt (lines ++ more) s' held w
  told-all {serves} {meets} {K} {pt} lines more s s' held w a plain h = record {
    done = h.done;
    waits = h.waits ++ asks_of K more;
    replies = h.replies;
    parts = map-append (asked K) lines more ∙ ap (λ x. x ++ asks_of K more) h.parts ∙ append_assoc h.done h.waits (asks_of K more);
    course = subst (λ x. Course serves meets pt.passes h.done h.replies x) (sym a.lanes.passes) h.course;
    waiting = subst (λ n. Waiting n (h.waits ++ asks_of K more) s'.places.items s'.lanes.items) (sym a.first)
        (waiting-all s.first h.waits (asks_of K more) s.places.items s'.places.items s.lanes.items s'.lanes.items a.places a.lanes h.waiting);
    plain = plain-append h.waits (asks_of K more) h.plain plain;
    written = h.written;
    number = a.first ∙ h.number;
    refused_is = a.refused ∙ h.refused_is;
  }

module _ {Keeper Plan : Type 0} where
  -- a barrier, and what waited before it
  pub told-barrier : {serves : Serves} {meets : Meets} {K : Settings} {pt : Point} (lines : List Line) (line : Line) (s s1 s' : LaneScript Keeper Plan) (held w w' : Option (List ℕ)) → Added (asked K line) s s1 → is_barrier (place_in (asked K line)) ≡ true
      → Closed serves meets s1 s' w w' → Told serves meets K pt lines s held w → Told serves meets K pt (lines ++ line ∷ []) s' held w'
  told-barrier {serves} {meets} {K} {pt} lines line s s1 s' held w w' a barrier c h =
      let is : asked K line ≡ Ok a_barrier = barrier-asked (asked K line) barrier in
      let all = h.waits ++ Ok a_barrier ∷ [] in
      let waits : Waiting s1.first all s1.places.items s1.lanes.items = subst (λ x. Waiting s1.first (h.waits ++ x ∷ []) s1.places.items s1.lanes.items) is (waits-more (asked K line) h.waits s s1 a h.waiting) in
      let v = c.served in
      let p = v.printed in
      let q = p.printed all waits in
      let rs = q.replies in
      let met : AllMet meets (passes_of p.phase.worked) (passes_of s'.lanes.items) = subst (λ x. AllMet meets x (passes_of s'.lanes.items)) p.passes c.met.met in
      let phase = phase-barrier serves meets s1.first h.waits s.places.items rs s1.lanes.items q.left (passes_of s'.lanes.items) h.plain (waits-still (asked K line) h.waits s s1 a is h.waiting) p.phase
      (subst (λ x. InTurn Took p.phase.replies x rs q.left) waits.places q.took) met in
      let course = subst (λ x. Course serves meets x all rs (passes_of s'.lanes.items)) a.lanes.passes phase in
      let count : pt.first + length h.replies ≡ s1.first = next-number lines s held w h ∙ sym a.first in
      record {
        done = h.done ++ all;
        waits = [];
        replies = h.replies ++ rs;
        parts = asks-push K lines line h.done h.waits h.parts ∙ ap (λ x. h.done ++ (h.waits ++ x ∷ [])) is ∙ sym (append-nil (h.done ++ all));
        course = turn-append (LineServed serves meets) pt.passes (passes_of s.lanes.items) (passes_of s'.lanes.items) h.done all h.replies rs h.course course;
        waiting = record { places = c.met.places ∙ v.places; asked = idle-same c.between.lanes.items s'.lanes.items c.met.asked p.idle };
        plain = refl;
        written = both-written pt.first s1.first h.replies rs held w w' count h.written q.written;
        number = omega (arith, c.met.first, v.first, a.first, h.number, length-append h.done all, ap length waits.places, length-map all place_in);
        refused_is = both-refused pt.refused s.refused v.refused s'.refused h.replies rs (c.met.refused ∙ v.refused_is ∙ ap (λ x. x || v.refused) a.refused) h.refused_is q.refused_is;
      }

  -- what waited was served, and no passes met
  pub told-served : {serves : Serves} {meets : Meets} {K : Settings} {pt : Point} (lines : List Line) (s s' : LaneScript Keeper Plan) (held w w' : Option (List ℕ)) → Served serves s s' w w'
      → Told serves meets K pt lines s held w → Told serves meets K pt lines s' held w'
  told-served {serves} {meets} {K} {pt} lines s s' held w w' c h =
      let p = c.printed in
      let q = p.printed h.waits h.waiting in
      let rs = q.replies in
      let phase = phase-whole serves meets s.first h.waits s.places.items rs s.lanes.items q.left h.plain h.waiting p.phase (subst (λ x. InTurn Took p.phase.replies x rs q.left) h.waiting.places q.took) in
      record {
        done = h.done ++ h.waits;
        waits = [];
        replies = h.replies ++ rs;
        parts = h.parts ∙ sym (append-nil (h.done ++ h.waits));
        course = turn-append (LineServed serves meets) pt.passes (passes_of s.lanes.items) (passes_of s'.lanes.items) h.done h.waits h.replies rs h.course (subst (λ x. Course serves meets (passes_of s.lanes.items) h.waits rs x) (sym p.passes) phase);
        waiting = record { places = c.places; asked = p.idle };
        plain = refl;
        written = both-written pt.first s.first h.replies rs held w w' (next-number lines s held w h) h.written q.written;
        number = omega (arith, c.first, h.number, length-append h.done h.waits, ap length h.waiting.places, length-map h.waits place_in);
        refused_is = both-refused pt.refused s.refused c.refused s'.refused h.replies rs c.refused_is h.refused_is q.refused_is;
      }

  -- so of a text, where something waited or nothing did
  pub text-served : {serves : Serves} {meets : Meets} {K : Settings} {pt : Point} (text : List ℕ) (s s' : LaneScript Keeper Plan) (held w w' : Option (List ℕ)) → (Unchanged s s' w w' ⊎ Served serves s s' w w')
      → TextTold serves meets K pt text s held w → TextTold serves meets K pt text s' held w'
  text-served {serves} {meets} {K} {pt} text s s' held w w' (inl u) h = subst (λ x. TextTold serves meets K pt text x held w') (sym u.same) (subst (λ x. TextTold serves meets K pt text s held x) (sym u.kept) h)
  text-served {pt = pt} text s s' held w w' (inr c) h = record { line = c.line ∙ h.line; told = told-served (ended pt.line text) s s' held w w' c h.told }

  -- the end, and what waited before it
  pub told-ended : {serves : Serves} {meets : Meets} {K : Settings} {ps : List Pass} (text : List ℕ) (lines : List Line) (s s' : LaneScript Keeper Plan) (held w w' : Option (List ℕ)) → lines ≡ all_lines text
      → Closed serves meets s s' w w' → Told serves meets K (at_start ps) lines s held w → Ended serves meets K ps text held w' s'.refused (passes_of s'.lanes.items)
  told-ended {serves} {meets} {K} {ps} text lines s s' held w w' all c h =
      let v = c.served in
      let p = v.printed in
      let q = p.printed h.waits h.waiting in
      let rs = q.replies in
      let phase = phase-whole serves meets s.first h.waits s.places.items rs s.lanes.items q.left h.plain h.waiting p.phase (subst (λ x. InTurn Took p.phase.replies x rs q.left) h.waiting.places q.took) in
      record {
        replies = h.replies ++ rs;
        served = passes_of p.phase.worked;
        course = subst (λ x. Course serves meets ps x (h.replies ++ rs) (passes_of p.phase.worked)) (sym h.parts ∙ ap (asks_of K) all)
            (turn-append (LineServed serves meets) ps (passes_of s.lanes.items) (passes_of p.phase.worked) h.done h.waits h.replies rs h.course phase);
        met = subst (λ x. AllMet meets x (passes_of s'.lanes.items)) p.passes c.met.met;
        written = both-written 1 s.first h.replies rs held w w' (next-number lines s held w h) h.written q.written;
        refused_is = both-refused false s.refused v.refused s'.refused h.replies rs (c.met.refused ∙ v.refused_is) h.refused_is q.refused_is;
      }

-- ---- texts

-- the lines that end in a text with a part and its line feed more
pub lines-end : (begun : Line) (text part : List ℕ) → has_feed part ≡ false → ended begun (text ++ (part ++ 10 ∷ [])) ≡ ended begun text ++ grown (left begun text) part ∷ []
lines-end begun text part free = ended-append begun text (part ++ 10 ∷ []) ∙ ap (λ ls. ended begun text ++ ls) (line-ended (left begun text) part free)

module _ {Keeper Plan : Type 0} where
  -- what was told of lines is told of them while the line after them grows
  pub told-longer : {serves : Serves} {meets : Meets} {K : Settings} {pt : Point} (lines : List Line) (s s' : LaneScript Keeper Plan) (held w : Option (List ℕ)) → s'.lanes ≡ s.lanes → s'.places ≡ s.places → s'.first ≡ s.first → s'.refused ≡ s.refused
      → Told serves meets K pt lines s held w → Told serves meets K pt lines s' held w
  told-longer {serves} {meets} {K} {pt} lines s s' held w lanes places first refused h = record {
    done = h.done;
    waits = h.waits;
    replies = h.replies;
    parts = h.parts;
    course = subst (λ x. Course serves meets pt.passes h.done h.replies (passes_of x.items)) (sym lanes) h.course;
    waiting = subst (λ n. Waiting n h.waits s'.places.items s'.lanes.items) (sym first)
        (subst (λ x. Waiting s.first h.waits x.items s'.lanes.items) (sym places) (subst (λ x. Waiting s.first h.waits s.places.items x.items) (sym lanes) h.waiting));
    plain = h.plain;
    written = h.written;
    number = first ∙ h.number;
    refused_is = refused ∙ h.refused_is;
  }

  -- a part that ends a line
  pub text-line : {serves : Serves} {meets : Meets} {K : Settings} {pt : Point} (text part : List ℕ) (s s1 s' : LaneScript Keeper Plan) (held w w' : Option (List ℕ)) → has_feed part ≡ false → s1.line ≡ grown s.line part
      → s1.lanes ≡ s.lanes → s1.places ≡ s.places → s1.first ≡ s.first → s1.refused ≡ s.refused → s'.line ≡ Some []
      → TellsLine serves meets K s1.line s1 s' w w' → TextTold serves meets K pt text s held w → TextTold serves meets K pt (text ++ (part ++ 10 ∷ [])) s' held w'
  text-line {serves} {meets} {K} {pt} text part s s1 s' held w w' free grows lanes places first refused empty step h =
      let line : s1.line ≡ grown (left pt.line text) part = grows ∙ ap (λ l. grown l part) h.line in
      let lines : ended pt.line (text ++ (part ++ 10 ∷ [])) ≡ ended pt.line text ++ s1.line ∷ [] = lines-end pt.line text part free ∙ ap (λ l. ended pt.line text ++ l ∷ []) (sym line) in
      record {
        line = empty ∙ sym (left-append pt.line text (part ++ 10 ∷ []) ∙ left-line (left pt.line text) part);
        told = subst (λ ls. Told serves meets K pt ls s' held w') (sym lines) (step pt (ended pt.line text) held (told-longer (ended pt.line text) s s1 held w lanes places first refused h.told));
      }

  -- a part within a line
  text-part : {serves : Serves} {meets : Meets} {K : Settings} {pt : Point} (text part : List ℕ) (s s' : LaneScript Keeper Plan) (held w : Option (List ℕ)) → has_feed part ≡ false → s'.line ≡ grown s.line part
      → s'.lanes ≡ s.lanes → s'.places ≡ s.places → s'.first ≡ s.first → s'.refused ≡ s.refused → TextTold serves meets K pt text s held w → TextTold serves meets K pt (text ++ part) s' held w
  text-part {serves} {meets} {K} {pt} text part s s' held w free grows lanes places first refused h =
      let so_far = left pt.line text in
      let lines : ended pt.line (text ++ part) ≡ ended pt.line text =
      ended-append pt.line text part ∙ ap (λ ls. ended pt.line text ++ ls) (ended-free so_far part free) ∙ append-nil (ended pt.line text) in
      record {
        line = grows ∙ ap (λ l. grown l part) h.line ∙ sym (left-append pt.line text part ∙ left-free so_far part free);
        told = subst (λ ls. Told serves meets K pt ls s' held w) (sym lines) (told-longer (ended pt.line text) s s' held w lanes places first refused h.told);
      }

  -- a chunk whose parts so far were told of, and the rest within a line
  pub text-whole : {serves : Serves} {meets : Meets} {K : Settings} {pt : Point} (text chunk done rest : List ℕ) (s s' : LaneScript Keeper Plan) (held w : Option (List ℕ)) → chunk ≡ done ++ rest → has_feed rest ≡ false → s'.line ≡ grown s.line rest
      → s'.lanes ≡ s.lanes → s'.places ≡ s.places → s'.first ≡ s.first → s'.refused ≡ s.refused → TextTold serves meets K pt (text ++ done) s held w → TextTold serves meets K pt (text ++ chunk) s' held w
  text-whole {serves} {meets} {K} {pt} text chunk done rest s s' held w is free grows lanes places first refused h =
      subst (λ t. TextTold serves meets K pt t s' held w) (append_assoc text done rest ∙ ap (λ t. text ++ t) (sym is)) (text-part (text ++ done) rest s s' held w free grows lanes places first refused h)

-- all lines of a text after a line feed
pub lines-clean : (text : List ℕ) (line : Line) → line ≡ left (Some []) text → is_empty_line line ≡ true → ended (Some []) text ≡ all_lines text
lines-clean text line is empty =
    sym (append-nil (ended (Some []) text)) ∙ ap (λ b. ended (Some []) text ++ cond b [] (left (Some []) text ∷ [])) (sym (ap is_empty_line (sym is) ∙ empty)) ∙ ended-all text

-- all lines of a text that ends in a line without its line feed
pub lines-last : (text : List ℕ) (line : Line) → line ≡ left (Some []) text → is_empty_line line ≡ false → ended (Some []) text ++ line ∷ [] ≡ all_lines text
lines-last text line is some =
    ap (λ l. ended (Some []) text ++ l ∷ []) is ∙ ap (λ b. ended (Some []) text ++ cond b [] (left (Some []) text ∷ [])) (sym (ap is_empty_line (sym is) ∙ some)) ∙ ended-all text

module _ {Keeper Plan : Type 0} where
  -- the end after a line feed
  pub ended-clean : {serves : Serves} {meets : Meets} {K : Settings} {ps : List Pass} (text : List ℕ) (s s' : LaneScript Keeper Plan) (held w w' : Option (List ℕ)) → is_empty_line s.line ≡ true → Closed serves meets s s' w w'
      → TextTold serves meets K (at_start ps) text s held w → Ended serves meets K ps text held w' s'.refused (passes_of s'.lanes.items)
  ended-clean text s s' held w w' empty c h = told-ended text (ended (Some []) text) s s' held w w' (lines-clean text s.line h.line empty) c h.told

  -- the end after a last line without its line feed
  pub ended-line : {serves : Serves} {meets : Meets} {K : Settings} {ps : List Pass} (text : List ℕ) (s s1 s' : LaneScript Keeper Plan) (held w w1 w' : Option (List ℕ)) → is_empty_line s.line ≡ false
      → TellsLine serves meets K s.line s s1 w w1 → Closed serves meets s1 s' w1 w' → TextTold serves meets K (at_start ps) text s held w → Ended serves meets K ps text held w' s'.refused (passes_of s'.lanes.items)
  ended-line {serves} {meets} {K} {ps} text s s1 s' held w w1 w' some step c h =
      told-ended text (ended (Some []) text ++ s.line ∷ []) s1 s' held w1 w' (lines-last text s.line h.line some) c (step (at_start ps) (ended (Some []) text) held h.told)

module _ {Keeper Plan : Type 0} where
  -- one part of a text, and then another
  pub more-then : {serves : Serves} {meets : Meets} {K : Settings} (a b : List ℕ) (s m s' : LaneScript Keeper Plan) (w w1 w' : Option (List ℕ)) → TellsMore serves meets K a s m w w1 → TellsMore serves meets K b m s' w1 w' → TellsMore serves meets K (a ++ b) s s' w w'
  more-then {serves} {meets} {K} a b s m s' w w1 w' one two pt text held h = subst (λ t. TextTold serves meets K pt t s' held w') (append_assoc text a b) (two pt (text ++ a) held (one pt text held h))

  -- nothing of a text
  pub more-none : {serves : Serves} {meets : Meets} {K : Settings} (s : LaneScript Keeper Plan) (w : Option (List ℕ)) → TellsMore serves meets K [] s s w w
  more-none {serves} {meets} {K} s w pt text held h = subst (λ t. TextTold serves meets K pt t s held w) (sym (append-nil text)) h

  -- the lines of a text that begins a line, and ends one
  pub more-lines : {serves : Serves} {meets : Meets} {K : Settings} (part : List ℕ) (s s' : LaneScript Keeper Plan) (w w' : Option (List ℕ)) → s.line ≡ Some [] → s'.line ≡ Some [] → left (Some []) part ≡ Some []
      → TellsLines serves meets K (ended (Some []) part) s s' w w' → TellsMore serves meets K part s s' w w'
  more-lines {serves} {meets} {K} part s s' w w' begins ends whole step pt text held h =
      let so_far : left pt.line text ≡ Some [] = sym h.line ∙ begins in
      let lines : ended pt.line (text ++ part) ≡ ended pt.line text ++ ended (Some []) part = ended-append pt.line text part ∙ ap (λ l. ended pt.line text ++ ended l part) so_far in
      record {
        line = ends ∙ sym (left-append pt.line text part ∙ ap (λ l. left l part) so_far ∙ whole);
        told = subst (λ ls. Told serves meets K pt ls s' held w') (sym lines) (step pt (ended pt.line text) held h.told);
      }
