-- the lines that end in a text are all of its parts but the last
use Rattle.std.proofs.Common.{◌≡◌, ℕ, List, [], ◌∷◌, ◌++◌, Bool, true, false, cond, eqb, ◌<◌, ◌+◌, arith, length, refl, sym, ap, ◌∙◌, append_assoc, append-nil}
use Rattle.std.proofs.lemmas.List.Splits.{length-slice_split}
use Rattle.std.specs.List.{onto_first}
use Rattle.wire_lines.specs.Lines.{parts, before_last}
use Rattle.wire_lines.specs.Pending.{ended}

-- a line so far before the first part
abbrev behind : List ℕ → List (List ℕ) → List (List ℕ)
behind line [] = line ∷ []
behind line (part ∷ more) = (line ++ part) ∷ more

some_parts : (text : List ℕ) → 0 < length (parts text)
some_parts text = omega (arith, length-slice_split (λ b. eqb b 10) text)

behind-onto_first : (l : List ℕ) (b : ℕ) (ps : List (List ℕ)) → behind l (onto_first b ps) ≡ behind (l ++ b ∷ []) ps
behind-onto_first l b [] = refl
behind-onto_first l b (part ∷ more) = ap (λ p. p ∷ more) (sym (append_assoc l (b ∷ []) part))

behind-none : (ps : List (List ℕ)) → 0 < length ps → behind [] ps ≡ ps
behind-none [] h = absurd (omega (arith, h))
behind-none (part ∷ more) h = refl

before_last-behind : (l : List ℕ) (ps : List (List ℕ)) → 0 < length ps → before_last (behind l ([] ∷ ps)) ≡ l ∷ before_last (behind [] ps)
before_last-behind l [] h = absurd (omega (arith, h))
before_last-behind l (part ∷ more) h = ap (λ x. x ∷ before_last (part ∷ more)) (append-nil l)

ended-is : (l text : List ℕ) → ended l text ≡ before_last (behind l (parts text))
unfolding ended
ended-is l [] = refl
ended-is l (b ∷ text) = by_test (eqb b 10)
    (ap (λ ls. l ∷ ls) (ended-is [] text) ∙ sym (before_last-behind l (parts text) (some_parts text)))
    (ended-is (l ++ b ∷ []) text ∙ sym (ap before_last (behind-onto_first l b (parts text))))
  where
    by_test : (t : Bool) → l ∷ ended [] text ≡ before_last (behind l ([] ∷ parts text))
        → ended (l ++ b ∷ []) text ≡ before_last (behind l (onto_first b (parts text)))
        → cond t (l ∷ ended [] text) (ended (l ++ b ∷ []) text) ≡ before_last (behind l (cond t ([] ∷ parts text) (onto_first b (parts text))))
    by_test true ends more = ends
    by_test false ends more = more

pub ended-whole : (text : List ℕ) → ended [] text ≡ before_last (parts text)
ended-whole text = ended-is [] text ∙ ap before_last (behind-none (parts text) (some_parts text))
