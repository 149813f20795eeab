-- The lines that end and the line so far, as a text comes in, are those of the whole text.
use Rattle.std.proofs.Common.{◌≡◌, ℕ, List, [], ◌∷◌, ◌++◌, Bool, true, false, cond, eqb, Some, None, ◌<◌, ◌+◌, arith, length, map, nat_lt, refl, sym, ap, ◌∙◌, append_assoc, length-append}
use Rattle.std.proofs.lemmas.Bool.{ltb-true, ltb-false, lt-ltb, le-ltb}
use Rattle.std.proofs.lemmas.List.{append-nil, map-append}
use Rattle.std.proofs.lemmas.List.Splits.{length-slice_split}
use Rattle.std.specs.List.{onto_first}
use Rattle.script.specs.Lines.{limit, within_limit, parts, before_last, without_empty_last, whole_lines, all_lines}
use Rattle.script.specs.Pending.{longer, ended, left, last}

-- a line so far before the first part
abbrev behind : List ℕ → List (List ℕ) → List (List ℕ)
behind line [] = line ∷ []
behind line (part ∷ more) = (line ++ part) ∷ more

-- the last part
abbrev last_part : List (List ℕ) → List ℕ
last_part [] = []
last_part (part ∷ []) = part
last_part (part ∷ next ∷ more) = last_part (next ∷ more)

pub longer-within : (l : List ℕ) (b : ℕ) → longer (within_limit l) b ≡ within_limit (l ++ b ∷ [])
longer-within l b = go (nat_lt limit (length l)) (nat_lt limit (length (l ++ b ∷ []))) refl refl
  where
    more : length (l ++ b ∷ []) ≡ length l + 1
    more = length-append l (b ∷ [])

    go : (t u : Bool) → nat_lt limit (length l) ≡ t → nat_lt limit (length (l ++ b ∷ [])) ≡ u → longer (cond t None (Some l)) b ≡ cond u None (Some (l ++ b ∷ []))
    go true true e f = refl
    go true false e f = absurd (omega (arith, more, ltb-true limit (length l) e, ltb-false limit (length (l ++ b ∷ [])) f))
    go false true e f = rw (le-ltb (length l) limit (omega (arith, more, ltb-true limit (length (l ++ b ∷ [])) f))) refl
    go false false e f = rw (lt-ltb (length l) limit (omega (arith, more, ltb-false limit (length (l ++ b ∷ [])) f))) refl

some_parts : (text : List ℕ) → 0 < length (parts text)
some_parts text = omega (arith, length-slice_split (λ b. eqb b 10) text)

behind-onto_first : (l : List ℕ) (b : ℕ) (ps : List (List ℕ)) → behind l (onto_first b ps) ≡ behind (l ++ b ∷ []) ps
behind-onto_first l b [] = refl
behind-onto_first l b (part ∷ more) = ap (λ p. p ∷ more) (sym (append_assoc l (b ∷ []) part))

behind-none : (ps : List (List ℕ)) → 0 < length ps → behind [] ps ≡ ps
behind-none [] h = absurd (omega (arith, h))
behind-none (part ∷ more) h = refl

before_last-behind : (l : List ℕ) (ps : List (List ℕ)) → 0 < length ps → before_last (behind l ([] ∷ ps)) ≡ l ∷ before_last (behind [] ps)
before_last-behind l [] h = absurd (omega (arith, h))
before_last-behind l (part ∷ more) h = ap (λ x. x ∷ before_last (part ∷ more)) (append-nil l)

last_part-behind : (l : List ℕ) (ps : List (List ℕ)) → 0 < length ps → last_part (behind l ([] ∷ ps)) ≡ last_part (behind [] ps)
last_part-behind l [] h = absurd (omega (arith, h))
last_part-behind l (part ∷ more) h = refl

ended-is : (l text : List ℕ) → ended (within_limit l) text ≡ map within_limit (before_last (behind l (parts text)))
unfolding ended
ended-is l [] = refl
ended-is l (b ∷ text) = by_test (eqb b 10)
    (ap (λ ls. within_limit l ∷ ls) (ended-is [] text) ∙ sym (ap (map within_limit) (before_last-behind l (parts text) (some_parts text))))
    (ap (λ p. ended p text) (longer-within l b) ∙ ended-is (l ++ b ∷ []) text ∙ sym (ap (λ ps. map within_limit (before_last ps)) (behind-onto_first l b (parts text))))
  where
    by_test : (t : Bool) → within_limit l ∷ ended (Some []) text ≡ map within_limit (before_last (behind l ([] ∷ parts text)))
        → ended (longer (within_limit l) b) text ≡ map within_limit (before_last (behind l (onto_first b (parts text))))
        → cond t (within_limit l ∷ ended (Some []) text) (ended (longer (within_limit l) b) text) ≡ map within_limit (before_last (behind l (cond t ([] ∷ parts text) (onto_first b (parts text)))))
    by_test true ends more = ends
    by_test false ends more = more

left-is : (l text : List ℕ) → left (within_limit l) text ≡ within_limit (last_part (behind l (parts text)))
unfolding left
left-is l [] = ap within_limit (sym (append-nil l))
left-is l (b ∷ text) = by_test (eqb b 10)
    (left-is [] text ∙ sym (ap within_limit (last_part-behind l (parts text) (some_parts text))))
    (ap (λ p. left p text) (longer-within l b) ∙ left-is (l ++ b ∷ []) text ∙ sym (ap (λ ps. within_limit (last_part ps)) (behind-onto_first l b (parts text))))
  where
    by_test : (t : Bool) → left (Some []) text ≡ within_limit (last_part (behind l ([] ∷ parts text)))
        → left (longer (within_limit l) b) text ≡ within_limit (last_part (behind l (onto_first b (parts text))))
        → cond t (left (Some []) text) (left (longer (within_limit l) b) text) ≡ within_limit (last_part (behind l (cond t ([] ∷ parts text) (onto_first b (parts text)))))
    by_test true ends more = ends
    by_test false ends more = more

without_empty_last-is : (ps : List (List ℕ)) → 0 < length ps → without_empty_last ps ≡ before_last ps ++ without_empty_last (last_part ps ∷ [])
without_empty_last-is [] h = absurd (omega (arith, h))
without_empty_last-is (part ∷ []) h = refl
without_empty_last-is (part ∷ next ∷ more) h = ap (λ ps. part ∷ ps) (without_empty_last-is (next ∷ more) (omega arith))

last-within : (l : List ℕ) → last (within_limit l) ≡ map within_limit (without_empty_last (l ∷ []))
last-within [] = refl
last-within (b ∷ bytes) = by_test (nat_lt limit (length (b ∷ bytes)))
  where
    by_test : (t : Bool) → last (cond t None (Some (b ∷ bytes))) ≡ cond t None (Some (b ∷ bytes)) ∷ []
    by_test true = refl
    by_test false = refl

-- the lines that end in a text are its whole lines
pub ended-whole : (text : List ℕ) → ended (Some []) text ≡ whole_lines text
ended-whole text = ended-is [] text ∙ ap (λ ps. map within_limit (before_last ps)) (behind-none (parts text) (some_parts text))

-- with the line so far, they are all its lines
pub ended-all : (text : List ℕ) → ended (Some []) text ++ last (left (Some []) text) ≡ all_lines text
ended-all text =
    let none = behind-none (parts text) (some_parts text) in
    let end = last_part (parts text) in
    let left_over : left (Some []) text ≡ within_limit end = left-is [] text ∙ ap (λ ps. within_limit (last_part ps)) none in
    ap (λ ls. ls ++ last (left (Some []) text)) (ended-whole text)
    ∙ ap (λ p. whole_lines text ++ last p) left_over
    ∙ ap (λ ls. whole_lines text ++ ls) (last-within end)
    ∙ sym (map-append within_limit (before_last (parts text)) (without_empty_last (end ∷ [])))
    ∙ ap (map within_limit) (sym (without_empty_last-is (parts text) (some_parts text)))
