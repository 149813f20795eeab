-- Progress, step by step.
use Rattle.std.proofs.Common.{◌≡◌, ℕ, List, [], ◌∷◌, ◌++◌, Bool, true, false, cond, eqb, Option, Some, Result, Ok, Err, OnErr, refl, sym, ap, ◌∙◌, append_assoc}
use Rattle.std.specs.Io.KnownBytes.{Keeps}
use Rattle.wire_counted.specs.Written.{AppendsBeginning}
use Rattle.wire_counted.proofs.Known.{Appends-none, Appends-then, Consumes-none, Consumes-then, Consumes-keeps, beginning_of_nothing, beginning_of_more, beginning_behind}
use Rattle.script.specs.Lines.{Line}
use Rattle.script.specs.Pending.{longer, ended, left}
use Rattle.script.specs.Cursor.{Cursor, after_line, after_lines, line_text, lines_text}
use Rattle.script.specs.Progress.{Served, Progress, Stopped}

-- ---- lines after a line so far

pub left-append : (p : Line) (a b : List ℕ) → left p (a ++ b) ≡ left (left p a) b
unfolding left
left-append p [] b = refl
left-append p (x ∷ a) b = by_test (eqb x 10) (left-append (Some []) a b) (left-append (longer p x) a b)
  where
    by_test : (t : Bool) → left (Some []) (a ++ b) ≡ left (left (Some []) a) b → left (longer p x) (a ++ b) ≡ left (left (longer p x) a) b
        → cond t (left (Some []) (a ++ b)) (left (longer p x) (a ++ b)) ≡ left (cond t (left (Some []) a) (left (longer p x) a)) b
    by_test true ends more = ends
    by_test false ends more = more

pub ended-append : (p : Line) (a b : List ℕ) → ended p (a ++ b) ≡ ended p a ++ ended (left p a) b
unfolding ended left
ended-append p [] b = refl
ended-append p (x ∷ a) b = by_test (eqb x 10) (ended-append (Some []) a b) (ended-append (longer p x) a b)
  where
    by_test : (t : Bool) → ended (Some []) (a ++ b) ≡ ended (Some []) a ++ ended (left (Some []) a) b → ended (longer p x) (a ++ b) ≡ ended (longer p x) a ++ ended (left (longer p x) a) b
        → cond t (p ∷ ended (Some []) (a ++ b)) (ended (longer p x) (a ++ b)) ≡ cond t (p ∷ ended (Some []) a) (ended (longer p x) a) ++ ended (cond t (left (Some []) a) (left (longer p x) a)) b
    by_test true ends more = ap (λ ls. p ∷ ls) ends
    by_test false ends more = more

-- ---- lines served one after another

pub after_lines-append : (c : Cursor) (a b : List Line) → after_lines c (a ++ b) ≡ after_lines (after_lines c a) b
after_lines-append c [] b = refl
after_lines-append c (l ∷ a) b = after_lines-append (after_line c l) a b

pub lines_text-append : (c : Cursor) (a b : List Line) → lines_text c (a ++ b) ≡ lines_text c a ++ lines_text (after_lines c a) b
lines_text-append c [] b = refl
lines_text-append c (l ∷ a) b = ap (λ t. line_text c l ++ t) (lines_text-append (after_line c l) a b) ∙ sym (append_assoc (line_text c l) (lines_text (after_line c l) a) (lines_text (after_lines (after_line c l) a) b))

both_texts : (c : Cursor) (p : Line) (a b : List ℕ) → lines_text c (ended p (a ++ b)) ≡ lines_text c (ended p a) ++ lines_text (after_lines c (ended p a)) (ended (left p a) b)
both_texts c p a b = ap (lines_text c) (ended-append p a b) ∙ lines_text-append c (ended p a) (ended (left p a) b)

pub Served-none : (c : Cursor) (p : Line) (w : Option (List ℕ)) → Served c p w [] c p w
unfolding ended left
Served-none c p w = record { line_is = refl; cursor_is = refl; written = Appends-none w }

pub Served-then : (c : Cursor) (p : Line) (w : Option (List ℕ)) (a : List ℕ) (c1 : Cursor) (p1 : Line) (w1 : Option (List ℕ)) (b : List ℕ) (c2 : Cursor) (p2 : Line) (w2 : Option (List ℕ))
    → Served c p w a c1 p1 w1 → Served c1 p1 w1 b c2 p2 w2 → Served c p w (a ++ b) c2 p2 w2
Served-then c p w a c1 p1 w1 b c2 p2 w2 s t =
    let second : Served (after_lines c (ended p a)) (left p a) w1 b c2 p2 w2 = rw (← s.cursor_is, ← s.line_is) t in
    record {
      line_is = second.line_is ∙ sym (left-append p a b);
      cursor_is = second.cursor_is ∙ sym (ap (after_lines c) (ended-append p a b) ∙ after_lines-append c (ended p a) (ended (left p a) b));
      written = rw (both_texts c p a b) (Appends-then w w1 w2 (lines_text c (ended p a)) (lines_text (after_lines c (ended p a)) (ended (left p a) b)) s.written second.written);
    }

-- some text was served, and then a beginning of more was written
pub Served-begun : (c : Cursor) (p : Line) (w : Option (List ℕ)) (a : List ℕ) (c1 : Cursor) (p1 : Line) (w1 : Option (List ℕ)) (b : List ℕ) (w2 : Option (List ℕ))
    → Served c p w a c1 p1 w1 → AppendsBeginning w1 w2 (lines_text c1 (ended p1 b)) → AppendsBeginning w w2 (lines_text c (ended p (a ++ b)))
Served-begun c p w a c1 p1 w1 b w2 s h =
    let second : AppendsBeginning w1 w2 (lines_text (after_lines c (ended p a)) (ended (left p a) b)) = rw (← s.cursor_is, ← s.line_is) h in
    rw (both_texts c p a b) (beginning_behind w w1 w2 (lines_text c (ended p a)) (lines_text (after_lines c (ended p a)) (ended (left p a) b)) s.written second)

pub begun_longer : (c : Cursor) (p : Line) (w w' : Option (List ℕ)) (a b : List ℕ) → AppendsBeginning w w' (lines_text c (ended p a)) → AppendsBeginning w w' (lines_text c (ended p (a ++ b)))
begun_longer c p w w' a b h = rw (both_texts c p a b) (beginning_of_more w w' (lines_text c (ended p a)) (lines_text (after_lines c (ended p a)) (ended (left p a) b)) h)

pub on_any_err : {T E : Type 0} (r : Result T E) (P : Type 0) → P → OnErr r P
on_any_err (Ok x) P p = tt
on_any_err (Err e) P p = p

-- ---- one turn

pub Progress-none : (r : Option (List ℕ)) (c : Cursor) (p : Line) (w : Option (List ℕ)) → Progress r c p w r c p w
Progress-none r c p w = record { text = []; read = Consumes-none r; served = Served-none c p w }

pub Progress-then : (r : Option (List ℕ)) (c : Cursor) (p : Line) (w r1 : Option (List ℕ)) (c1 : Cursor) (p1 : Line) (w1 r2 : Option (List ℕ)) (c2 : Cursor) (p2 : Line) (w2 : Option (List ℕ))
    → Progress r c p w r1 c1 p1 w1 → Progress r1 c1 p1 w1 r2 c2 p2 w2 → Progress r c p w r2 c2 p2 w2
Progress-then r c p w r1 c1 p1 w1 r2 c2 p2 w2 a b = record {
  text = a.text ++ b.text;
  read = Consumes-then r r1 r2 a.text b.text a.read b.read;
  served = Served-then c p w a.text c1 p1 w1 b.text c2 p2 w2 a.served b.served;
}

pub Progress-stopped : (r : Option (List ℕ)) (c : Cursor) (p : Line) (w r1 : Option (List ℕ)) (c1 : Cursor) (p1 : Line) (w1 r2 w2 : Option (List ℕ))
    → Progress r c p w r1 c1 p1 w1 → Stopped r1 c1 p1 w1 r2 w2 → Stopped r c p w r2 w2
Progress-stopped r c p w r1 c1 p1 w1 r2 w2 a b = record {
  text = a.text ++ b.text;
  read = Consumes-then r r1 r2 a.text b.text a.read b.read;
  begun = Served-begun c p w a.text c1 p1 w1 b.text w2 a.served b.begun;
}

pub read_stopped : (r r' : Option (List ℕ)) (c : Cursor) (p : Line) (w : Option (List ℕ)) → Keeps r r' → Stopped r c p w r' w
unfolding ended
read_stopped r r' c p w k = record { text = []; read = Consumes-keeps r r r' [] (Consumes-none r) k; begun = beginning_of_nothing w [] }
