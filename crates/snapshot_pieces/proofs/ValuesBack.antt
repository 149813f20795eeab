-- what was written of a piece is read again
use Rattle.std.proofs.Common.{◌≡◌, ℕ, List, [], ◌∷◌, length, refl, arith, codes}
use Rattle.std.specs.Prelude.{Ok}
use Rattle.wf_event_values.specs.declared.field.Field.TheVariants as field
use Rattle.service_model_types.specs.declared.content.Dispatch.{Dispatch}
use Rattle.service_model_types.specs.declared.journal.Note.{Note}
use Rattle.service_model_types.specs.declared.journal.Note.TheVariants as note
use Rattle.wf_event_values.specs.Names.{task_kind_name}
use Rattle.wire_fields.specs.Kinds.{array_of, id_of, moment_of, number_of, span_of, string_of, text_of}
use Rattle.wire_fields.specs.Steps.{for_each}
use Rattle.wire_record_commands.proofs.ValuesBack.{then, array_back, id_back, moment_back, span_back, text_back}
use Rattle.wire_record_events.specs.Keys.{number32_in}
use Rattle.wire_record_events.proofs.EventLemmas.{event_back}
use Rattle.wire_record_events.proofs.KeysBack.{number32_back}
use Rattle.wire_record_rows.specs.Keys.{keyed, shard_in}
use Rattle.wire_record_rows.specs.Rows.{object_of}
use Rattle.wire_record_rows.proofs.KeysBack.{inner_is, keyed_is, shard_back}
use Rattle.wire_record_transfers.specs.Reading.{transfer_of}
use Rattle.wire_record_transfers.proofs.TransfersBack.{transfer_back}
use Rattle.snapshot_pieces.specs.Limits.{IsCounted, IsDispatch, IsEnd, IsHead, IsNote, IsNotePiece, IsPiece, IsTransferPiece}
use Rattle.snapshot_pieces.specs.Names.{note_kind_in, task_kind_in}
use Rattle.snapshot_pieces.specs.Reading.{counted_of, dispatch_of, end_of, head_of, note_of, piece_by, piece_of, said_by, waiting_of}
use Rattle.snapshot_pieces.specs.Trees.{both_counts, both_rows, counted_rows, dispatch_rows, end_rows, gone_rows, head_rows, note_kind, note_kind_name, note_rows, piece_tree, request_rows, under, waiting_rows}
use Rattle.snapshot_pieces.specs.declared.piece.CountedPiece.{CountedPiece}
use Rattle.snapshot_pieces.specs.declared.piece.EndPiece.{EndPiece}
use Rattle.snapshot_pieces.specs.declared.piece.Head.{Head}
use Rattle.snapshot_pieces.specs.declared.piece.NotePiece.{NotePiece}
use Rattle.snapshot_pieces.specs.declared.piece.Piece.{Piece}
use Rattle.snapshot_pieces.specs.declared.piece.Piece.TheVariants as piece
use Rattle.snapshot_pieces.specs.declared.piece.TransferPiece.{TransferPiece}
use Rattle.snapshot_pieces.proofs.NamesBack.{kind_back, kind_of, note_kind_back, task_kind_back}

head_back : (h : Head) → IsHead h → head_of (object_of (head_rows h)) ≡ Ok h
unfolding head_of head_rows
head_back h l =
    let rows = head_rows h in
    then _ (keyed_is span_of (codes "retention") rows _ h.retention refl refl (span_back field.Line h.retention l.retention))
    (then _ (keyed_is number_of (codes "service") rows _ h.service refl refl refl)
    (then _ (then shard_in (keyed_is number_of (codes "shard") rows _ h.shard refl refl refl) (shard_back h.shard l.shard))
    (then _ (then shard_in (keyed_is number_of (codes "shards") rows _ h.shards refl refl refl) (shard_back h.shards l.shards))
    refl)))

said_back : (activity at times : ℕ) (x : Note) → IsNote x → said_by (note_kind x) (object_of (note_rows (record { activity = activity; at = at; note = x; times = times }))) ≡ Ok x
unfolding note_rows
said_back activity at times note.Taken h = refl
said_back activity at times note.Ended h = refl
said_back activity at times note.Ready h = refl
said_back activity at times (note.Beat t) h =
    let rows = note_rows (record { activity = activity; at = at; note = note.Beat t; times = times }) in
    then _ (keyed_is text_of (codes "details") rows _ t refl refl (text_back field.Line t h)) refl

note_back : (n : NotePiece) → IsNotePiece n → note_of (object_of (note_rows n)) ≡ Ok n
unfolding note_of note_rows
note_back n l =
    let rows = note_rows n in
    then _ (keyed_is number_of (codes "activity") rows _ n.activity refl refl refl)
    (then _ (keyed_is moment_of (codes "at") rows _ n.at refl refl (moment_back field.Line n.at l.at))
    (then _ (then note_kind_in (keyed_is string_of (codes "kind") rows _ (note_kind_name (note_kind n.note)) refl refl refl) (note_kind_back (note_kind n.note)))
    (then _ (said_back n.activity n.at n.times n.note l.note)
    (then _ (then number32_in (keyed_is number_of (codes "times") rows _ n.times refl refl refl) (number32_back n.times l.times))
    refl))))

-- ---- counts

one_accepted : (m n : ℕ) → keyed number_of (codes "accepted") (object_of (both_rows m n)) ≡ Ok m
unfolding both_rows
one_accepted m n = keyed_is number_of (codes "accepted") (both_rows m n) _ m refl refl refl

one_acknowledged : (m n : ℕ) → keyed number_of (codes "acknowledged") (object_of (both_rows m n)) ≡ Ok n
unfolding both_rows
one_acknowledged m n = keyed_is number_of (codes "acknowledged") (both_rows m n) _ n refl refl refl

accepted_back : (ms ns : List ℕ) → length ms ≡ length ns → for_each (keyed number_of (codes "accepted")) (both_counts ms ns) ≡ Ok ms
accepted_back [] ns h = refl
accepted_back (m ∷ ms) [] h = absurd (omega (arith, h))
accepted_back (m ∷ ms) (n ∷ ns) h = then _ (one_accepted m n) (then _ (accepted_back ms ns (omega (arith, h))) refl)

acknowledged_back : (ms ns : List ℕ) → length ms ≡ length ns → for_each (keyed number_of (codes "acknowledged")) (both_counts ms ns) ≡ Ok ns
acknowledged_back [] [] h = refl
acknowledged_back [] (n ∷ ns) h = absurd (omega (arith, h))
acknowledged_back (m ∷ ms) [] h = absurd (omega (arith, h))
acknowledged_back (m ∷ ms) (n ∷ ns) h = then _ (one_acknowledged m n) (then _ (acknowledged_back ms ns (omega (arith, h))) refl)

counted_back : (c : CountedPiece) → IsCounted c → counted_of (object_of (counted_rows c)) ≡ Ok c
unfolding counted_of counted_rows
counted_back c l =
    let rows = counted_rows c in
    let both = both_counts c.accepted c.acknowledged in
    then _ (keyed_is number_of (codes "dispatched") rows _ c.dispatched refl refl refl)
    (then _ (then (array_of field.Line) (inner_is (codes "transfers") rows _ refl refl) (array_back field.Line both))
    (then _ (accepted_back c.accepted c.acknowledged l.each_shard)
    (then _ (acknowledged_back c.accepted c.acknowledged l.each_shard)
    refl)))

dispatch_back : (d : Dispatch) → IsDispatch d → dispatch_of (object_of (dispatch_rows d)) ≡ Ok d
unfolding dispatch_of dispatch_rows
dispatch_back d l =
    let rows = dispatch_rows d in
    then _ (then number32_in (keyed_is number_of (codes "attempt") rows _ d.hint.attempt refl refl refl) (number32_back d.hint.attempt l.hint.attempt))
    (then _ (keyed_is number_of (codes "event") rows _ d.hint.event refl refl refl)
    (then _ (then task_kind_in (keyed_is string_of (codes "kind") rows _ (task_kind_name d.hint.kind) refl refl refl) (task_kind_back d.hint.kind))
    (then _ (keyed_is id_of (codes "queue") rows _ d.queue refl refl (id_back field.Line d.queue l.queue))
    (then _ (keyed_is number_of (codes "run") rows _ d.hint.run refl refl refl)
    (then _ (then shard_in (keyed_is number_of (codes "shard") rows _ d.hint.shard refl refl refl) (shard_back d.hint.shard l.hint.shard))
    refl)))))

waiting_back : (t : TransferPiece) → IsTransferPiece t → waiting_of (object_of (waiting_rows t)) ≡ Ok t
unfolding waiting_of waiting_rows
waiting_back t l =
    let rows = waiting_rows t in
    then _ (then shard_in (keyed_is number_of (codes "to") rows _ t.to refl refl refl) (shard_back t.to l.to))
    (then _ (then transfer_of (inner_is (codes "transfer") rows _ refl refl) (transfer_back t.transfer l.transfer))
    refl)

end_back : (e : EndPiece) → IsEnd e → end_of (object_of (end_rows e)) ≡ Ok e
unfolding end_of end_rows
end_back e l =
    let rows = end_rows e in
    then _ (keyed_is moment_of (codes "last") rows _ e.last refl refl (moment_back field.Line e.last l.last))
    (then _ (keyed_is number_of (codes "lines") rows _ e.lines refl refl refl)
    refl)

-- ---- pieces

by_back : (p : Piece) → IsPiece p → piece_by (kind_of p) (piece_tree p) ≡ Ok p
unfolding piece_tree under gone_rows request_rows
by_back (piece.Head h) l = then _ (then head_of (inner_is (codes "head") (under (codes "head") (object_of (head_rows h))) _ refl refl) (head_back h l)) refl
by_back (piece.Gone n) l = then _ (keyed_is number_of (codes "gone") (gone_rows n) _ n refl refl refl) refl
by_back (piece.Event e) l = then _ (event_back e l) refl
by_back (piece.Request i) l = then _ (keyed_is id_of (codes "request_id") (request_rows i) _ i refl refl (id_back field.Line i l)) refl
by_back (piece.Note n) l = then _ (then note_of (inner_is (codes "note") (under (codes "note") (object_of (note_rows n))) _ refl refl) (note_back n l)) refl
by_back (piece.Counted c) l = then _ (then counted_of (inner_is (codes "counted") (under (codes "counted") (object_of (counted_rows c))) _ refl refl) (counted_back c l)) refl
by_back (piece.Dispatch d) l = then _ (then dispatch_of (inner_is (codes "dispatch") (under (codes "dispatch") (object_of (dispatch_rows d))) _ refl refl) (dispatch_back d l)) refl
by_back (piece.Transfer t) l = then _ (waiting_back t l) refl
by_back (piece.End e) l = then _ (then end_of (inner_is (codes "end") (under (codes "end") (object_of (end_rows e))) _ refl refl) (end_back e l)) refl

pub piece_back : (p : Piece) → IsPiece p → piece_of (piece_tree p) ≡ Ok p
unfolding piece_of
piece_back p l = then (λ k. piece_by k (piece_tree p)) (kind_back p) (by_back p l)
