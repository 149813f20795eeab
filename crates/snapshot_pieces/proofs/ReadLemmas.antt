-- pieces that are read one after another are those whose lines the input has
use Rattle.std.proofs.Common.{◌≡◌, ℕ, List, [], ◌∷◌, ◌++◌, flat_map, Option, refl, sym, ap, subst, ◌∙◌, append_assoc, append-nil}
use Rattle.std.specs.Io.KnownBytes.{Consumes}
use Rattle.std.specs.List.{AllByRecursion}
use Rattle.wire_counted.proofs.Known.{Consumes-none, Consumes-then}
use Rattle.snapshot_pieces.specs.Limits.{IsPiece}
use Rattle.snapshot_pieces.specs.Lines.{EndsThere, HasRead, TakesPiece}
use Rattle.snapshot_pieces.specs.Trees.{line_of}
use Rattle.snapshot_pieces.specs.declared.piece.Piece.{Piece}

pub all_push : (ps : List Piece) (p : Piece) → AllByRecursion IsPiece ps → IsPiece p → AllByRecursion IsPiece (ps ++ p ∷ [])
all_push [] p h k = (k, tt)
all_push (q ∷ ps) p h k = (h.0, all_push ps p h.1 k)

pub lines_push : (ps : List Piece) (p : Piece) → flat_map line_of (ps ++ p ∷ []) ≡ flat_map line_of ps ++ line_of p
lines_push [] p = append-nil (line_of p)
lines_push (q ∷ ps) p = ap (λ t. line_of q ++ t) (lines_push ps p) ∙ sym (append_assoc (line_of q) (flat_map line_of ps) (line_of p))

pub none_read : (u : Option (List ℕ)) → HasRead u u [] []
none_read u = record { text = []; read = Consumes-none u; are_pieces = tt; lines = refl }

joined : (text ahead chunk : List ℕ) (ps : List Piece) → text ≡ flat_map line_of ps ++ ahead → text ++ chunk ≡ flat_map line_of ps ++ (ahead ++ chunk)
joined text ahead chunk ps e = ap (λ t. t ++ chunk) e ∙ append_assoc (flat_map line_of ps) ahead chunk

pub one_more : (u u' u'' : Option (List ℕ)) (ahead ahead' : List ℕ) (ps : List Piece) (p : Piece) → HasRead u u' ahead ps → TakesPiece u' u'' ahead ahead' p → HasRead u u'' ahead' (ps ++ p ∷ [])
one_more u u' u'' ahead ahead' ps p h t = record {
  text = h.text ++ t.chunk;
  read = Consumes-then u u' u'' h.text t.chunk h.read t.read;
  are_pieces = all_push ps p h.are_pieces t.is_piece;
  lines = joined h.text ahead t.chunk ps h.lines ∙ ap (λ b. flat_map line_of ps ++ b) t.line ∙ sym (append_assoc (flat_map line_of ps) (line_of p) ahead')
      ∙ ap (λ b. b ++ ahead') (sym (lines_push ps p));
}

pub all_read : (u u' u'' : Option (List ℕ)) (ahead : List ℕ) (ps : List Piece) → HasRead u u' ahead ps → EndsThere u' u'' ahead → Consumes u u'' (flat_map line_of ps)
all_read u u' u'' ahead ps h t =
    let text : h.text ++ t.chunk ≡ flat_map line_of ps = joined h.text ahead t.chunk ps h.lines ∙ ap (λ b. flat_map line_of ps ++ b) t.nothing ∙ append-nil (flat_map line_of ps) in
    subst (Consumes u u'') text (Consumes-then u u' u'' h.text t.chunk h.read t.read)
