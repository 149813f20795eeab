-- A line that comes in by parts, and the parts of a text between its line feeds.
use Rattle.std.proofs.Common.{◌≡◌, ℕ, List, [], ◌∷◌, ◌++◌, take, Bool, true, false, cond, eqb, Option, Some, None, zero, suc, Result, Ok, Err, OnOk, OnErr, ◌<◌, ◌≤◌, ◌+◌, arith, length, get_or, nat_lt, refl, sym, ap, ◌∙◌, append_assoc, length-append}
use Rattle.std.proofs.lemmas.Bool.{or_parts, false_from_ne_true, ltb-true, ltb-false, lt-ltb, le-ltb}
use Rattle.std.proofs.lemmas.List.{append-nil}
use Rattle.std.specs.Io.KnownBytes.{Appends}
use Rattle.wire_counted.specs.Written.{AppendsBeginning}
use Rattle.wire_counted.proofs.Known.{Appends-none, beginning_of_nothing}
use Rattle.script.specs.Lines.{Line, limit, within_limit}
use Rattle.script.specs.Pending.{longer, grown, has_feed, ended, left}
use Rattle.script.specs.Cursor.{Cursor, after_line, line_text, lines_text}
use Rattle.script.specs.Progress.{Served}
use Rattle.script.proofs.LineLemmas.{longer-within}
use Rattle.script.proofs.Steps.{left-append, ended-append, Served-then, Served-begun, begun_longer}

-- ---- a line that grows

pub grown-none : (part : List ℕ) → grown None part ≡ None
grown-none [] = refl
grown-none (b ∷ part) = grown-none part

grown-within : (l part : List ℕ) → grown (within_limit l) part ≡ within_limit (l ++ part)
grown-within l [] = ap within_limit (sym (append-nil l))
grown-within l (b ∷ part) = ap (λ p. grown p part) (longer-within l b) ∙ grown-within (l ++ b ∷ []) part ∙ ap within_limit (append_assoc l (b ∷ []) part)

longer-some : (l : List ℕ) (b : ℕ) → longer (Some l) b ≡ within_limit (l ++ b ∷ [])
longer-some l b = go (nat_lt (length l) limit) (nat_lt limit (length (l ++ b ∷ []))) refl refl
  where
    more : length (l ++ b ∷ []) ≡ length l + 1
    more = length-append l (b ∷ [])

    go : (t u : Bool) → nat_lt (length l) limit ≡ t → nat_lt limit (length (l ++ b ∷ [])) ≡ u → cond t (Some (l ++ b ∷ [])) None ≡ cond u None (Some (l ++ b ∷ []))
    go true true e f = absurd (omega (arith, more, ltb-true (length l) limit e, ltb-true limit (length (l ++ b ∷ [])) f))
    go true false e f = refl
    go false true e f = refl
    go false false e f = absurd (omega (arith, more, ltb-false (length l) limit e, ltb-false limit (length (l ++ b ∷ [])) f))

grown-some : (l part : List ℕ) → 0 < length part → grown (Some l) part ≡ within_limit (l ++ part)
grown-some l [] h = absurd (omega (arith, h))
grown-some l (b ∷ part) h = ap (λ p. grown p part) (longer-some l b) ∙ grown-within (l ++ b ∷ []) part ∙ ap within_limit (append_assoc l (b ∷ []) part)

pub some_bytes : (part : List ℕ) → false ≡ eqb (length part) 0 → 0 < length part
some_bytes [] e = absurd cc
some_bytes (b ∷ part) e = omega arith

pub grown-fits : (l part : List ℕ) → 0 < length part → length l + length part ≤ limit → grown (Some l) part ≡ Some (l ++ part)
grown-fits l part some fits = grown-some l part some ∙ rw (le-ltb limit (length (l ++ part)) (omega (arith, length-append l part))) refl

pub grown-over : (l part : List ℕ) → 0 < length part → limit < length l + length part → grown (Some l) part ≡ None
grown-over l part some over = grown-some l part some ∙ rw (lt-ltb limit (length (l ++ part)) (omega (arith, length-append l part))) refl

-- ---- a text in which no line feed was found

pub free_front : (text : List ℕ) (n : ℕ) → n ≤ length text → ((k : ℕ) → k < n → ¬ (eqb (get_or text k 0) 10 ≡ true)) → has_feed (take n text) ≡ false
free_front [] zero h none = refl
free_front [] (suc n) h none = absurd (omega (arith, h))
free_front (b ∷ text) zero h none = refl
free_front (b ∷ text) (suc n) h none =
    rw (false_from_ne_true (eqb b 10) (none 0 (omega arith))) (free_front text n (omega arith) (λ k lt. none (suc k) (omega arith)))

pub free_all : (text : List ℕ) → ((k : ℕ) → k < length text → ¬ (eqb (get_or text k 0) 10 ≡ true)) → has_feed text ≡ false
free_all [] none = refl
free_all (b ∷ text) none = rw (false_from_ne_true (eqb b 10) (none 0 (omega arith))) (free_all text (λ k lt. none (suc k) (omega arith)))

-- ---- a part without a line feed

pub left-free : (p : Line) (part : List ℕ) → has_feed part ≡ false → left p part ≡ grown p part
unfolding left
left-free p [] free = refl
left-free p (b ∷ part) free = let q = or_parts (eqb b 10) (has_feed part) free in rw q.0 (left-free (longer p b) part q.1)

pub ended-free : (p : Line) (part : List ℕ) → has_feed part ≡ false → ended p part ≡ []
unfolding ended
ended-free p [] free = refl
ended-free p (b ∷ part) free = let q = or_parts (eqb b 10) (has_feed part) free in rw q.0 (ended-free (longer p b) part q.1)

pub left-line : (p : Line) (part : List ℕ) → left p (part ++ 10 ∷ []) ≡ Some []
unfolding left
left-line p part = left-append p part (10 ∷ [])

pub ended-line : (p : Line) (part : List ℕ) → has_feed part ≡ false → ended p (part ++ 10 ∷ []) ≡ grown p part ∷ []
unfolding ended
ended-line p part free = ended-append p part (10 ∷ []) ∙ ap (λ ls. ls ++ left p part ∷ []) (ended-free p part free) ∙ ap (λ l. l ∷ []) (left-free p part free)

-- a part and its line feed were served as a line
pub Served-line : {E : Type 0} (r : Result (Unit {0}) E) (c : Cursor) (p : Line) (w : Option (List ℕ)) (part : List ℕ) (q : Line) (c' : Cursor) (p' : Line) (w' : Option (List ℕ))
    → has_feed part ≡ false → q ≡ grown p part → OnOk r (p' ≡ Some []) → OnOk r (c' ≡ after_line c q) → OnOk r (Appends w w' (line_text c q)) → OnOk r (Served c p w (part ++ 10 ∷ []) c' p' w')
Served-line (Ok u) c p w part q c' p' w' free is line cursor written =
    let ends = ended-line p part free ∙ ap (λ l. l ∷ []) (sym is) in
    record { line_is = line ∙ sym (left-line p part); cursor_is = rw ends cursor; written = rw (ends, append-nil (line_text c q)) written }
Served-line (Err e) c p w part q c' p' w' free is line cursor written = tt

pub begun_line : {E : Type 0} (r : Result (Unit {0}) E) (c : Cursor) (p : Line) (w w' : Option (List ℕ)) (part : List ℕ) (q : Line)
    → has_feed part ≡ false → q ≡ grown p part → OnErr r (AppendsBeginning w w' (line_text c q)) → OnErr r (AppendsBeginning w w' (lines_text c (ended p (part ++ 10 ∷ []))))
begun_line (Ok u) c p w w' part q free is begun = tt
begun_line (Err e) c p w w' part q free is begun = rw (ended-line p part free ∙ ap (λ l. l ∷ []) (sym is), append-nil (line_text c q)) begun

-- a part was kept
pub Served-part : (c : Cursor) (p : Line) (w : Option (List ℕ)) (part : List ℕ) (c' : Cursor) (p' : Line) → has_feed part ≡ false → p' ≡ grown p part → c' ≡ c → Served c p w part c' p' w
Served-part c p w part c' p' free line cursor =
    record { line_is = line ∙ sym (left-free p part free); cursor_is = rw (ended-free p part free) cursor; written = rw (ended-free p part free) (Appends-none w) }

-- ---- the parts of a chunk, one after another: `done` was served, `rest` is left

pub next_done : (chunk done rest part behind : List ℕ) → chunk ≡ done ++ rest → rest ≡ part ++ 10 ∷ behind → chunk ≡ (done ++ (part ++ 10 ∷ [])) ++ behind
next_done chunk done rest part behind p q =
    p ∙ ap (λ t. done ++ t) q ∙ sym (append_assoc done (part ++ 10 ∷ []) behind ∙ ap (λ t. done ++ t) (append_assoc part (10 ∷ []) behind))

pub begun_in_line : (c : Cursor) (p : Line) (w : Option (List ℕ)) (chunk done part behind : List ℕ) (c1 : Cursor) (p1 : Line) (w1 w2 : Option (List ℕ)) → chunk ≡ (done ++ (part ++ 10 ∷ [])) ++ behind
    → Served c p w done c1 p1 w1 → AppendsBeginning w1 w2 (lines_text c1 (ended p1 (part ++ 10 ∷ []))) → AppendsBeginning w w2 (lines_text c (ended p chunk))
begun_in_line c p w chunk done part behind c1 p1 w1 w2 is s h =
    rw is (begun_longer c p w w2 (done ++ (part ++ 10 ∷ [])) behind (Served-begun c p w done c1 p1 w1 (part ++ 10 ∷ []) w2 s h))

pub begun_so_far : (c : Cursor) (p : Line) (w : Option (List ℕ)) (chunk done rest : List ℕ) (c1 : Cursor) (p1 : Line) (w1 : Option (List ℕ)) → chunk ≡ done ++ rest
    → Served c p w done c1 p1 w1 → AppendsBeginning w w1 (lines_text c (ended p chunk))
begun_so_far c p w chunk done rest c1 p1 w1 is s = rw is (Served-begun c p w done c1 p1 w1 rest w1 s (beginning_of_nothing w1 (lines_text c1 (ended p1 rest))))

pub Served-whole : (c : Cursor) (p : Line) (w : Option (List ℕ)) (chunk done rest : List ℕ) (c1 : Cursor) (p1 : Line) (w1 : Option (List ℕ)) (p2 : Line) → chunk ≡ done ++ rest
    → Served c p w done c1 p1 w1 → has_feed rest ≡ false → p2 ≡ grown p1 rest → Served c p w chunk c1 p2 w1
Served-whole c p w chunk done rest c1 p1 w1 p2 is s free line = rw is (Served-then c p w done c1 p1 w1 rest c1 p2 w1 s (Served-part c1 p1 w1 rest c1 p2 free line refl))
