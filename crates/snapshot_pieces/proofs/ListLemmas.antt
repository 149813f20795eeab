-- no text is that of the lines of two lists of pieces
use Rattle.std.proofs.Common.{◌≡◌, ℕ, List, [], ◌∷◌, ◌++◌, flat_map, false, ◌==◌, refl, sym, ap, ap₂, ◌∙◌, append_assoc, true≢false}
use Rattle.std.proofs.lemmas.Bool.{or_parts}
use Rattle.std.specs.List.{AllByRecursion}
use Rattle.wire_record_rows.specs.Plain.{has_feed}
use Rattle.snapshot_pieces.specs.Limits.{IsPiece}
use Rattle.snapshot_pieces.specs.Trees.{line_of, piece_text}
use Rattle.snapshot_pieces.specs.declared.piece.Piece.{Piece}
use Rattle.snapshot_pieces.proofs.PieceLemmas.{one_line, one_piece}

-- what stands before the first line feed, and what stands after it
same_parts : (a b x y : List ℕ) → has_feed a ≡ false → has_feed b ≡ false → a ++ 10 ∷ x ≡ b ++ 10 ∷ y → (a ≡ b) × (x ≡ y)
same_parts [] [] x y h k e = (refl, cc)
same_parts [] (n ∷ b) x y h k e =
    let n_is : 10 ≡ n = cc in
    absurd (true≢false (ap (λ m. m == 10) n_is ∙ (or_parts (n == 10) (has_feed b) k).0))
same_parts (m ∷ a) [] x y h k e =
    let m_is : 10 ≡ m = cc in
    absurd (true≢false (ap (λ n. n == 10) m_is ∙ (or_parts (m == 10) (has_feed a) h).0))
same_parts (m ∷ a) (n ∷ b) x y h k e =
    let heads : m ≡ n = cc in
    let tails : a ++ 10 ∷ x ≡ b ++ 10 ∷ y = cc in
    let rest = same_parts a b x y (or_parts (m == 10) (has_feed a) h).1 (or_parts (n == 10) (has_feed b) k).1 tails in
    (ap₂ (λ n xs. n ∷ xs) heads rest.0, rest.1)

opened : (p : Piece) (rest : List ℕ) → line_of p ++ rest ≡ piece_text p ++ 10 ∷ rest
opened p rest = append_assoc (piece_text p) (10 ∷ []) rest

never_empty : (a x : List ℕ) → a ++ 10 ∷ x ≡ [] → ⊥
never_empty [] x e = absurd cc
never_empty (m ∷ a) x e = absurd cc

pub one_list : (ps qs : List Piece) → AllByRecursion IsPiece ps → AllByRecursion IsPiece qs → flat_map line_of ps ≡ flat_map line_of qs → ps ≡ qs
one_list [] [] h k e = refl
one_list [] (q ∷ qs) h k e = absurd (never_empty (piece_text q) (flat_map line_of qs) (sym (opened q (flat_map line_of qs)) ∙ sym e))
one_list (p ∷ ps) [] h k e = absurd (never_empty (piece_text p) (flat_map line_of ps) (sym (opened p (flat_map line_of ps)) ∙ e))
one_list (p ∷ ps) (q ∷ qs) h k e =
    let more = flat_map line_of ps in
    let others = flat_map line_of qs in
    let parts = same_parts (piece_text p) (piece_text q) more others (one_line p h.0) (one_line q k.0) (sym (opened p more) ∙ e ∙ opened q others) in
    ap₂ (λ r rs. r ∷ rs) (one_piece (piece_text p) p q h.0 k.0 refl parts.0) (one_list ps qs h.1 k.1 parts.1)
