-- pieces of text, one after another
use Rattle.std.proofs.Common.{◌≡◌, ℕ, List, [], ◌∷◌, ◌++◌, sym, ap, ◌∙◌, append_assoc}
use Rattle.std.proofs.lemmas.List.{append-nil}
use Rattle.json.specs.Print.{escape, quoted}

-- pieces, one after another, and as they are put at the end of a text
abbrev pub flat : List (List ℕ) → List ℕ
flat [] = []
flat (p ∷ ps) = p ++ flat ps

abbrev pub grown : List ℕ → List (List ℕ) → List ℕ
grown text [] = text
grown text (p ∷ ps) = grown (text ++ p) ps

pub grown-flat : (text : List ℕ) (ps : List (List ℕ)) → grown text ps ≡ text ++ flat ps
grown-flat text [] = sym (append-nil text)
grown-flat text (p ∷ ps) = grown-flat (text ++ p) ps ∙ append_assoc text p (flat ps)

-- one more piece
pub flat-push : (ps : List (List ℕ)) (more : List ℕ) → flat (ps ++ more ∷ []) ≡ flat ps ++ more
flat-push [] more = append-nil more
flat-push (p ∷ ps) more = ap (λ t. p ++ t) (flat-push ps more) ∙ sym (append_assoc p (flat ps) more)

-- a text that needs no escapes, in quotes before more
pub in-quotes : (text rest : List ℕ) → escape text ≡ text → quoted text ++ rest ≡ 34 ∷ (text ++ 34 ∷ rest)
in-quotes text rest plain = ap (λ t. 34 ∷ ((t ++ 34 ∷ []) ++ rest)) plain ∙ ap (λ t. 34 ∷ t) (append_assoc text (34 ∷ []) rest)

-- ---- a text that grew by two pieces

-- a text with two pieces more
abbrev pub More : List ℕ → List ℕ → List ℕ → List ℕ → Type 0
More before piece more after = after ≡ (before ++ piece) ++ more

pub more : (t t' piece x : List ℕ) (after : List ℕ) → t ≡ t' → More t piece x after → after ≡ (t' ++ piece) ++ x
more t t' piece x after is e = e ∙ ap (λ y. (y ++ piece) ++ x) is

-- the second piece is another text of the same bytes
pub shown : (before piece x y after : List ℕ) → More before piece x after → x ≡ y → More before piece y after
shown before piece x y after e is = e ∙ ap (λ t. (before ++ piece) ++ t) is

-- one more piece
pub one : (t t' x : List ℕ) (after : List ℕ) → t ≡ t' → after ≡ t ++ x → after ≡ t' ++ x
one t t' x after is e = e ∙ ap (λ y. y ++ x) is
