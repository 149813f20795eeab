-- the texts of pieces' values are UTF-8
use Rattle.std.proofs.Common.{ℕ, List, [], ◌∷◌, refl, IsUtf8, codes}
use Rattle.serde_json.specs.View.{items_of}
use Rattle.wf_event_values.specs.declared.policies.TaskKind.{TaskKind}
use Rattle.wf_event_values.specs.declared.policies.TaskKind.TheVariants.{Workflow, Activity}
use Rattle.wf_event_values.specs.Names.{task_kind_name}
use Rattle.service_model_types.specs.declared.content.Dispatch.{Dispatch}
use Rattle.service_model_types.specs.declared.journal.Note.{Note}
use Rattle.service_model_types.specs.declared.journal.Note.TheVariants as note
use Rattle.service_model_types.specs.Notes.{details_of}
use Rattle.wire_record_commands.proofs.TextsUtf8.{literal}
use Rattle.wire_record_events.proofs.EventLemmas.{event_utf8}
use Rattle.wire_record_rows.specs.Rows.{if_text, object_of}
use Rattle.wire_record_rows.specs.Plain.{HasUtf8, HaveUtf8, IfUtf8}
use Rattle.wire_record_rows.proofs.RowTexts.{utf8_members}
use Rattle.wire_record_transfers.proofs.TextsUtf8.{transfer_utf8}
use Rattle.snapshot_pieces.specs.Limits.{IsDispatch, IsNote, IsNotePiece, IsPiece, IsTransferPiece}
use Rattle.snapshot_pieces.specs.Trees.{both_counts, both_rows, counted_rows, dispatch_rows, end_rows, gone_rows, head_rows, note_kind, note_kind_name, note_rows, piece_tree, request_rows, under, waiting_rows}
use Rattle.snapshot_pieces.specs.declared.kinds.NoteKind.{NoteKind}
use Rattle.snapshot_pieces.specs.declared.kinds.NoteKind.TheVariants as said
use Rattle.snapshot_pieces.specs.declared.piece.CountedPiece.{CountedPiece}
use Rattle.snapshot_pieces.specs.declared.piece.EndPiece.{EndPiece}
use Rattle.snapshot_pieces.specs.declared.piece.Head.{Head}
use Rattle.snapshot_pieces.specs.declared.piece.NotePiece.{NotePiece}
use Rattle.snapshot_pieces.specs.declared.piece.Piece.{Piece}
use Rattle.snapshot_pieces.specs.declared.piece.Piece.TheVariants as piece
use Rattle.snapshot_pieces.specs.declared.piece.TransferPiece.{TransferPiece}

note_kind_utf8 : (x : NoteKind) → IsUtf8 (note_kind_name x)
note_kind_utf8 said.Taken = literal _ refl
note_kind_utf8 said.Ended = literal _ refl
note_kind_utf8 said.Ready = literal _ refl
note_kind_utf8 said.Beat = literal _ refl

task_kind_utf8 : (x : TaskKind) → IsUtf8 (task_kind_name x)
task_kind_utf8 Workflow = literal _ refl
task_kind_utf8 Activity = literal _ refl

head_utf8 : (h : Head) → HasUtf8 (object_of (head_rows h))
unfolding head_rows
head_utf8 h = utf8_members (head_rows h) refl (tt, (tt, (tt, (tt, tt))))

details_utf8 : (x : Note) → IsNote x → IfUtf8 (if_text (codes "details") (details_of x)).1
details_utf8 note.Taken h = tt
details_utf8 note.Ended h = tt
details_utf8 note.Ready h = tt
details_utf8 (note.Beat t) h = h.1

note_utf8 : (n : NotePiece) → IsNotePiece n → HasUtf8 (object_of (note_rows n))
unfolding note_rows
note_utf8 n l = utf8_members (note_rows n) refl (tt, (tt, (details_utf8 n.note l.note, (note_kind_utf8 (note_kind n.note), (tt, tt)))))

one_utf8 : (m n : ℕ) → HasUtf8 (object_of (both_rows m n))
unfolding both_rows
one_utf8 m n = utf8_members (both_rows m n) refl (tt, (tt, tt))

both_utf8 : (ms ns : List ℕ) → HaveUtf8 (items_of (both_counts ms ns))
both_utf8 [] ns = tt
both_utf8 (m ∷ ms) [] = tt
both_utf8 (m ∷ ms) (n ∷ ns) = (one_utf8 m n, both_utf8 ms ns)

counted_utf8 : (c : CountedPiece) → HasUtf8 (object_of (counted_rows c))
unfolding counted_rows
counted_utf8 c = utf8_members (counted_rows c) refl (tt, (both_utf8 c.accepted c.acknowledged, tt))

dispatch_utf8 : (d : Dispatch) → IsDispatch d → HasUtf8 (object_of (dispatch_rows d))
unfolding dispatch_rows
dispatch_utf8 d l = utf8_members (dispatch_rows d) refl (tt, (tt, (task_kind_utf8 d.hint.kind, (l.queue.1, (tt, (tt, tt))))))

waiting_utf8 : (t : TransferPiece) → IsTransferPiece t → HasUtf8 (object_of (waiting_rows t))
unfolding waiting_rows
waiting_utf8 t l = utf8_members (waiting_rows t) refl (tt, (transfer_utf8 t.transfer l.transfer, tt))

end_utf8 : (e : EndPiece) → HasUtf8 (object_of (end_rows e))
unfolding end_rows
end_utf8 e = utf8_members (end_rows e) refl (tt, (tt, tt))

pub piece_utf8 : (p : Piece) → IsPiece p → HasUtf8 (piece_tree p)
unfolding piece_tree under gone_rows request_rows
piece_utf8 (piece.Head h) l = utf8_members (under (codes "head") (object_of (head_rows h))) refl (head_utf8 h, tt)
piece_utf8 (piece.Gone n) l = utf8_members (gone_rows n) refl (tt, tt)
piece_utf8 (piece.Event e) l = event_utf8 e l
piece_utf8 (piece.Request i) l = utf8_members (request_rows i) refl (l.1, tt)
piece_utf8 (piece.Note n) l = utf8_members (under (codes "note") (object_of (note_rows n))) refl (note_utf8 n l, tt)
piece_utf8 (piece.Counted c) l = utf8_members (under (codes "counted") (object_of (counted_rows c))) refl (counted_utf8 c, tt)
piece_utf8 (piece.Dispatch d) l = utf8_members (under (codes "dispatch") (object_of (dispatch_rows d))) refl (dispatch_utf8 d l, tt)
piece_utf8 (piece.Transfer t) l = waiting_utf8 t l
piece_utf8 (piece.End e) l = utf8_members (under (codes "end") (object_of (end_rows e))) refl (end_utf8 e, tt)
