-- a piece is read from the text that it is written as, and from no other
use Rattle.std.proofs.Common.{◌≡◌, ℕ, List, length, Bool, true, false, cond, ◌&&◌, ◌==◌, bytes_eq, Option, Some, None, IfSome, refl, sym, ap, ap₂, ◌∙◌, arith, le-leb, IsUtf8}
use Rattle.std.proofs.lemmas.Bool.{and_parts, false_from_ne_true}
use Rattle.std.proofs.lemmas.Bool.Decides.{nat_tests}
use Rattle.std.proofs.lemmas.Slice.Eq.{bytes_eq-Decides}
use Rattle.std.proofs.lemmas.Str.{IsUtf8-from_is_utf8, is_utf8-from_IsUtf8}
use Rattle.std.specs.Str.{is_utf8}
use Rattle.serde_json.specs.Data.{Data}
use Rattle.serde_json.specs.Read.{read}
use Rattle.wf_event.specs.declared.event.Event.{Event}
use Rattle.wire_record_events.specs.Trees.{event_text}
use Rattle.wire_record_rows.specs.Plain.{has_feed}
use Rattle.wire_record_rows.proofs.Again.{reads_again}
use Rattle.wire_record_rows.proofs.NoControl.{no_feed}
use Rattle.wire_record_rows.proofs.Utf8Texts.{text_utf8}
use Rattle.snapshot_pieces.specs.Limits.{IsPiece}
use Rattle.snapshot_pieces.specs.Reading.{if_piece, if_text_of, is_whole, piece_in, piece_named, piece_of}
use Rattle.snapshot_pieces.specs.Trees.{piece_text, piece_tree}
use Rattle.snapshot_pieces.specs.declared.piece.Piece.{Piece}
use Rattle.snapshot_pieces.specs.declared.piece.Piece.TheVariants as piece
use Rattle.snapshot_pieces.proofs.PlainLemmas.{deep, not_deep, piece_plain}
use Rattle.snapshot_pieces.proofs.TextsUtf8.{piece_utf8}
use Rattle.snapshot_pieces.proofs.ValuesBack.{piece_back}

same_length : (m n : ℕ) → m ≡ n → (m == n) ≡ true
same_length m n h = grind (arith, nat_tests)

pub piece_whole : (p : Piece) → IsPiece p → is_whole p ≡ true
piece_whole (piece.Head h) l = refl
piece_whole (piece.Gone n) l = refl
piece_whole (piece.Event e) l = refl
piece_whole (piece.Request i) l = refl
piece_whole (piece.Note n) l = le-leb 1 n.times l.made
piece_whole (piece.Counted c) l = same_length (length c.accepted) (length c.acknowledged) l.each_shard
piece_whole (piece.Dispatch d) l = refl
piece_whole (piece.Transfer t) l = refl
piece_whole (piece.End e) l = refl

text_is_utf8 : (p : Piece) → IsPiece p → IsUtf8 (piece_text p)
text_is_utf8 p l = text_utf8 (deep p) (piece_tree p) (piece_plain p l) (piece_utf8 p l)

text_reads : (p : Piece) → IsPiece p → read (piece_text p) ≡ Some (piece_tree p)
text_reads p l = reads_again (deep p) (piece_tree p) (not_deep p) (piece_plain p l)

pub one_line : (p : Piece) → IsPiece p → has_feed (piece_text p) ≡ false
one_line p l = no_feed (deep p) (piece_tree p) (piece_plain p l)

both : (a b : Bool) → a ≡ true → b ≡ true → (a && b) ≡ true
both a b h k = ap₂ (λ x y. x && y) h k

pub named : (text : List ℕ) (p : Piece) → IsPiece p → text ≡ piece_text p → piece_named text ≡ Some p
unfolding piece_named
named text p l t =
    let utf8 : is_utf8 text ≡ true = ap is_utf8 t ∙ is_utf8-from_IsUtf8 (piece_text p) (text_is_utf8 p l) in
    let tree : read text ≡ Some (piece_tree p) = ap read t ∙ text_reads p l in
    let own : bytes_eq (piece_text p) text ≡ true = (bytes_eq-Decides (piece_text p) text).1 (sym t) in
    ap (λ b. cond b (piece_in text (read text)) None) utf8 ∙ ap (piece_in text) tree ∙ ap (λ r. if_text_of text (if_piece r)) (piece_back p l)
    ∙ ap (λ b. cond b (Some p) None) (both _ _ (piece_whole p l) own)

some_same : (p q : Piece) → ◌≡◌ {A = Option Piece} (Some p) (Some q) → p ≡ q
some_same p q h = cc

pub one_piece : (text : List ℕ) (p q : Piece) → IsPiece p → IsPiece q → text ≡ piece_text p → text ≡ piece_text q → p ≡ q
one_piece text p q l k s t = some_same p q (sym (named text p l s) ∙ named text q k t)

-- ---- only texts of pieces are named

chosen : (b : Bool) (x y : Piece) → cond b (Some x) None ≡ Some y → (b ≡ true) × (x ≡ y)
chosen true x y e = (refl, cc)
chosen false x y e = absurd cc

from_text : (text : List ℕ) (o : Option Piece) (p : Piece) → if_text_of text o ≡ Some p → text ≡ piece_text p
from_text text None p h = absurd cc
from_text text (Some x) p h =
    let two = chosen (is_whole x && bytes_eq (piece_text x) text) x p h in
    let own = (bytes_eq-Decides (piece_text x) text).0 (and_parts (is_whole x) (bytes_eq (piece_text x) text) two.0).1 in
    sym own ∙ ap piece_text two.1

from_value : (text : List ℕ) (o : Option Data) (p : Piece) → piece_in text o ≡ Some p → text ≡ piece_text p
from_value text None p h = absurd cc
from_value text (Some d) p h = from_text text (if_piece (piece_of d)) p h

from_test : (b : Bool) (text : List ℕ) (o : Option Data) (p : Piece) → cond b (piece_in text o) None ≡ Some p → text ≡ piece_text p
from_test true text o p h = from_value text o p h
from_test false text o p h = absurd cc

pub named_only : (text : List ℕ) (p : Piece) → piece_named text ≡ Some p → text ≡ piece_text p
unfolding piece_named
named_only text p h = from_test (is_utf8 text) text (read text) p h

-- what was found is a piece, and the text is its own
pub found : (text : List ℕ) (o : Option Piece) → o ≡ piece_named text → IfSome o IsPiece → IfSome o (λ p. IsPiece p × (text ≡ piece_text p))
found text None is h = tt
found text (Some p) is h = (h, named_only text p (sym is))

-- ---- by the text's bytes

pub named_by_text : (text line : List ℕ) → text ≡ line → IsUtf8 line → piece_named line ≡ piece_in text (read text)
unfolding piece_named
named_by_text text line is u =
    ap (λ b. cond b (piece_in line (read line)) None) (is_utf8-from_IsUtf8 line u) ∙ ap (λ (l : List ℕ). piece_in l (read l)) (sym is)

pub none_named : (line : List ℕ) → (IsUtf8 line → ⊥) → piece_named line ≡ None
unfolding piece_named
none_named line bad = ap (λ b. cond b (piece_in line (read line)) None) (false_from_ne_true (is_utf8 line) (λ e. bad (IsUtf8-from_is_utf8 line e)))

pub as_in_histories : (e : Event) → piece_text (piece.Event e) ≡ event_text e
unfolding piece_tree
as_in_histories e = refl
