-- pieces are plain
use Rattle.std.proofs.Common.{ℕ, ◌<◌, ◌≤◌, ◌^◌, List, [], ◌∷◌, refl, arith, codes}
use Rattle.std.specs.List.{AllByRecursion}
use Rattle.serde_json.specs.Data.{Data}
use Rattle.serde_json.specs.View.{items_of}
use Rattle.service_model_types.specs.declared.content.Dispatch.{Dispatch}
use Rattle.service_model_types.specs.declared.journal.Note.{Note}
use Rattle.service_model_types.specs.declared.journal.Note.TheVariants as note
use Rattle.service_model_types.specs.Notes.{details_of}
use Rattle.wire_record_commands.specs.Limits.{IsNumber}
use Rattle.wire_record_commands.proofs.ValuesBack.{moment_plain, span_plain}
use Rattle.wire_record_events.proofs.EventLemmas.{event_plain}
use Rattle.wire_record_rows.specs.Rows.{if_text, object_of}
use Rattle.wire_record_rows.specs.Plain.{ArePlain, IfPlain, IsPlain}
use Rattle.wire_record_rows.proofs.RowLemmas.{plain_members}
use Rattle.wire_record_transfers.proofs.TransfersBack.{transfer_plain}
use Rattle.snapshot_pieces.specs.Limits.{IsCounted, IsDispatch, IsEnd, IsHead, IsNotePiece, IsPiece, IsTransferPiece}
use Rattle.snapshot_pieces.specs.Trees.{both_counts, both_rows, counted_rows, dispatch_rows, end_rows, gone_rows, head_rows, note_rows, piece_tree, request_rows, under, waiting_rows}
use Rattle.snapshot_pieces.specs.declared.piece.CountedPiece.{CountedPiece}
use Rattle.snapshot_pieces.specs.declared.piece.EndPiece.{EndPiece}
use Rattle.snapshot_pieces.specs.declared.piece.Head.{Head}
use Rattle.snapshot_pieces.specs.declared.piece.NotePiece.{NotePiece}
use Rattle.snapshot_pieces.specs.declared.piece.Piece.{Piece}
use Rattle.snapshot_pieces.specs.declared.piece.Piece.TheVariants as piece
use Rattle.snapshot_pieces.specs.declared.piece.TransferPiece.{TransferPiece}

-- small numbers
small16 : (n : ℕ) → n < 2 ^ 16 → n < 2 ^ 64
small16 n h = omega (arith, h)

small32 : (n : ℕ) → n < 2 ^ 32 → n < 2 ^ 64
small32 n h = omega (arith, h)

head_plain : (h : Head) → IsHead h → IsPlain 3 (object_of (head_rows h))
unfolding head_rows
head_plain h l = plain_members 2 (head_rows h) refl (span_plain h.retention l.retention, (l.service, (small16 h.shard l.shard, (small16 h.shards l.shards, tt))))

details_plain : (x : Note) → IfPlain 2 (if_text (codes "details") (details_of x)).1
details_plain note.Taken = tt
details_plain note.Ended = tt
details_plain note.Ready = tt
details_plain (note.Beat t) = tt

note_plain : (n : NotePiece) → IsNotePiece n → IsPlain 3 (object_of (note_rows n))
unfolding note_rows
note_plain n l = plain_members 2 (note_rows n) refl (l.activity, (moment_plain n.at l.at, (details_plain n.note, (tt, (small32 n.times l.times, tt)))))

one_plain : (m n : ℕ) → IsNumber m → IsNumber n → IsPlain 1 (object_of (both_rows m n))
unfolding both_rows
one_plain m n h k = plain_members 0 (both_rows m n) refl (h, (k, tt))

both_plain : (ms ns : List ℕ) → AllByRecursion IsNumber ms → AllByRecursion IsNumber ns → ArePlain 1 (items_of (both_counts ms ns))
both_plain [] ns h k = tt
both_plain (m ∷ ms) [] h k = tt
both_plain (m ∷ ms) (n ∷ ns) h k = (one_plain m n h.0 k.0, both_plain ms ns h.1 k.1)

counted_plain : (c : CountedPiece) → IsCounted c → IsPlain 3 (object_of (counted_rows c))
unfolding counted_rows
counted_plain c l = plain_members 2 (counted_rows c) refl (l.dispatched, (both_plain c.accepted c.acknowledged l.accepted l.acknowledged, tt))

dispatch_plain : (d : Dispatch) → IsDispatch d → IsPlain 3 (object_of (dispatch_rows d))
unfolding dispatch_rows
dispatch_plain d l = plain_members 2 (dispatch_rows d) refl (small32 d.hint.attempt l.hint.attempt, (l.hint.event, (tt, (tt, (l.hint.run, (small16 d.hint.shard l.hint.shard, tt))))))

waiting_plain : (t : TransferPiece) → IsTransferPiece t → IsPlain 5 (object_of (waiting_rows t))
unfolding waiting_rows
waiting_plain t l = plain_members 4 (waiting_rows t) refl (small16 t.to l.to, (transfer_plain t.transfer l.transfer, tt))

end_plain : (e : EndPiece) → IsEnd e → IsPlain 3 (object_of (end_rows e))
unfolding end_rows
end_plain e l = plain_members 2 (end_rows e) refl (moment_plain e.last l.last, (l.lines, tt))

under_plain : (key : List ℕ) (d : Data) → IsPlain 3 d → IsPlain 4 (object_of (under key d))
unfolding under
under_plain key d h = plain_members 3 (under key d) refl (h, tt)

gone_plain : (n : ℕ) → IsNumber n → IsPlain 4 (object_of (gone_rows n))
unfolding gone_rows
gone_plain n h = plain_members 3 (gone_rows n) refl (h, tt)

request_plain : (i : List ℕ) → IsPlain 4 (object_of (request_rows i))
unfolding request_rows
request_plain i = plain_members 3 (request_rows i) refl (tt, tt)

-- how deep a piece nests at most
abbrev pub deep : Piece → ℕ
deep (piece.Transfer t) = 5
deep _ = 4

pub not_deep : (p : Piece) → deep p ≤ 127
not_deep (piece.Head h) = omega arith
not_deep (piece.Gone n) = omega arith
not_deep (piece.Event e) = omega arith
not_deep (piece.Request i) = omega arith
not_deep (piece.Note n) = omega arith
not_deep (piece.Counted c) = omega arith
not_deep (piece.Dispatch d) = omega arith
not_deep (piece.Transfer t) = omega arith
not_deep (piece.End e) = omega arith

pub piece_plain : (p : Piece) → IsPiece p → IsPlain (deep p) (piece_tree p)
unfolding piece_tree
piece_plain (piece.Head h) l = under_plain (codes "head") (object_of (head_rows h)) (head_plain h l)
piece_plain (piece.Gone n) l = gone_plain n l
piece_plain (piece.Event e) l = event_plain e l
piece_plain (piece.Request i) l = request_plain i
piece_plain (piece.Note n) l = under_plain (codes "note") (object_of (note_rows n)) (note_plain n l)
piece_plain (piece.Counted c) l = under_plain (codes "counted") (object_of (counted_rows c)) (counted_plain c l)
piece_plain (piece.Dispatch d) l = under_plain (codes "dispatch") (object_of (dispatch_rows d)) (dispatch_plain d l)
piece_plain (piece.Transfer t) l = waiting_plain t l
piece_plain (piece.End e) l = under_plain (codes "end") (object_of (end_rows e)) (end_plain e l)
