-- a text spells one content, and that is found by its lines
use Rattle.std.proofs.Common.{◌≡◌, ℕ, List, [], ◌∷◌, ◌++◌, flat_map, refl, sym, ap, ◌∙◌, Option, Some}
use Rattle.std.specs.Prelude.{filter_map}
use Rattle.std.specs.List.{AllByRecursion, cons_option}
use Rattle.service_model_types.specs.declared.content.Content.{Content}
use Rattle.service_model_types.specs.declared.content.Setup.{Setup}
use Rattle.wire_lines.specs.Pending.{ended, left}
use Rattle.wire_lines.proofs.PendingLemmas as lines
use Rattle.snapshot_pieces.specs.Limits.{IsPiece}
use Rattle.snapshot_pieces.specs.Reading.{piece_named}
use Rattle.snapshot_pieces.specs.Trees.{line_of, piece_text}
use Rattle.snapshot_pieces.specs.declared.piece.Piece.{Piece}
use Rattle.snapshot_pieces.proofs.PieceLemmas.{named, one_line}
use Rattle.shard_snapshot.specs.Found.{content_in, pieces_in, restored_in}
use Rattle.shard_snapshot.specs.Stages.{Spells, led_by}

-- the lines of a text that begins with a piece's
first-line : (p : Piece) (rest : List ℕ) → IsPiece p → ended [] (line_of p ++ rest) ≡ piece_text p ∷ ended [] rest
first-line p rest is =
    lines.ended-append [] (line_of p) rest
    ∙ ap (λ ls. ls ++ ended (left [] (line_of p)) rest) (lines.one_line [] (piece_text p) (one_line p is))
    ∙ ap (λ l. piece_text p ∷ ended l rest) (lines.no_line [] (piece_text p))

one-more : (line : List ℕ) (p : Piece) (ls : List (List ℕ)) → piece_named line ≡ Some p → filter_map piece_named (line ∷ ls) ≡ p ∷ filter_map piece_named ls
one-more line p ls is = ap (λ o. cons_option o (filter_map piece_named ls)) is

pieces-again : (ps : List Piece) → AllByRecursion IsPiece ps → pieces_in (flat_map line_of ps) ≡ ps
unfolding ended
pieces-again [] h = refl
pieces-again (p ∷ ps) h =
    ap (filter_map piece_named) (first-line p (flat_map line_of ps) h.0)
    ∙ one-more (piece_text p) p (ended [] (flat_map line_of ps)) (named (piece_text p) p h.0 refl)
    ∙ ap (λ qs. p ∷ qs) (pieces-again ps h.1)

pub spelled-found : (setup : Setup) (text : List ℕ) (S : Content) → Spells setup text S → content_in setup text ≡ Some S
unfolding content_in
spelled-found setup text S s =
    ap (λ t. restored_in (led_by setup (pieces_in t))) s.lines
    ∙ ap (λ ps. restored_in (led_by setup ps)) (pieces-again s.pieces s.are_pieces)
    ∙ ap restored_in s.restores

pub spelled-one : (setup : Setup) (text : List ℕ) (S T : Content) → Spells setup text S → Spells setup text T → S ≡ T
spelled-one setup text S T s t =
    let same : ◌≡◌ {A = Option Content} (Some S) (Some T) = sym (spelled-found setup text S s) ∙ spelled-found setup text T t in
    some-same S T same
  where
    some-same : (S T : Content) → ◌≡◌ {A = Option Content} (Some S) (Some T) → S ≡ T
    some-same S T e = cc
