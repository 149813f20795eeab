-- a line so far and what comes after it, with a line taken off the front
use Rattle.std.proofs.Common.{◌≡◌, ℕ, suc, ◌+◌, ◌<◌, List, [], ◌∷◌, ◌++◌, length, drop, Option, None, Some, false, ◌==◌, refl, sym, ap, ◌∙◌, append_assoc, arith}
use Rattle.std.proofs.lemmas.Bool.{or_parts}
use Rattle.std.proofs.lemmas.List.{drop-drop}
use Rattle.wire_lines.specs.Pending.{has_feed}
use Rattle.snapshot_pieces.specs.Trees.{line_of, piece_text}
use Rattle.snapshot_pieces.specs.declared.piece.Piece.{Piece}

-- a line so far that has bytes, whatever comes after it
pub some_first : (line rest : List ℕ) → 0 < length line → line ++ rest ≡ [] → ⊥
some_first [] rest h e = absurd (omega (arith, h))
some_first (x ∷ line) rest h e = absurd cc

behind_line : (part behind : List ℕ) → drop (length part + 1) (part ++ 10 ∷ behind) ≡ behind
behind_line [] behind = refl
behind_line (x ∷ part) behind =
    let e : length (x ∷ part) + 1 ≡ suc (length part + 1) = omega arith in
    ap (λ k. drop k (x ∷ (part ++ 10 ∷ behind))) e ∙ behind_line part behind

-- the line of a piece, and what is left after it
pub taken : (n : ℕ) (xs line part behind : List ℕ) (p : Piece) → drop n xs ≡ part ++ 10 ∷ behind → line ++ part ≡ piece_text p → line ++ drop n xs ≡ line_of p ++ drop (n + (length part + 1)) xs
taken n xs line part behind p parts own =
    let rest : drop (n + (length part + 1)) xs ≡ behind = sym (drop-drop (length part + 1) n xs) ∙ ap (drop (length part + 1)) parts ∙ behind_line part behind in
    ap (λ t. line ++ t) parts ∙ sym (append_assoc line part (10 ∷ behind)) ∙ ap (λ t. t ++ 10 ∷ behind) own ∙ sym (append_assoc (piece_text p) (10 ∷ []) behind) ∙ ap (λ t. line_of p ++ t) (sym rest)

-- no line feed in a line so far, nor after it
pub free : (line part : List ℕ) → has_feed line ≡ false → has_feed part ≡ false → has_feed (line ++ part) ≡ false
free [] part h k = k
free (x ∷ line) part h k =
    let two = or_parts (x == 10) (has_feed line) h in
    rw (two.0) (free line part two.1 k)

pub no_piece : (p : Piece) → ◌≡◌ {A = Option Piece} None (Some p) → ⊥
no_piece p e = absurd cc
