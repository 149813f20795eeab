-- MEANING: the pieces that there are: every text, number and run within the limits of its type, a note made at least
-- once, and two counts for each shard
use Rattle.std.specs.Prelude.{◌≡◌, ◌<◌, ◌≤◌, ◌^◌, length, ⊤}
use Rattle.std.specs.List.{AllByRecursion}
use Rattle.wf_event_values.specs.Limits.{IsMoment, IsSpan}
use Rattle.service_model_types.specs.declared.content.Dispatch.{Dispatch}
use Rattle.service_model_types.specs.declared.journal.Note.{Note}
use Rattle.service_model_types.specs.declared.journal.Note.TheVariants as note
use Rattle.service_model_types.specs.declared.request.Hint.{Hint}
use Rattle.wire_record_commands.specs.Limits.{IsId, IsNumber, IsText}
use Rattle.wire_record_events.specs.Limits.{IsEvent}
use Rattle.wire_record_transfers.specs.Limits.{IsTransfer}
use Rattle.snapshot_pieces.specs.declared.piece.CountedPiece.{CountedPiece}
use Rattle.snapshot_pieces.specs.declared.piece.EndPiece.{EndPiece}
use Rattle.snapshot_pieces.specs.declared.piece.Head.{Head}
use Rattle.snapshot_pieces.specs.declared.piece.NotePiece.{NotePiece}
use Rattle.snapshot_pieces.specs.declared.piece.Piece.{Piece}
use Rattle.snapshot_pieces.specs.declared.piece.Piece.TheVariants as piece
use Rattle.snapshot_pieces.specs.declared.piece.TransferPiece.{TransferPiece}

pub record IsHead (h : Head) : Type 0 where
  pub service : IsNumber h.service
  pub shard : h.shard < 2 ^ 16
  pub shards : h.shards < 2 ^ 16
  pub retention : IsSpan h.retention

abbrev pub IsNote : Note → Type 0
IsNote note.Taken = ⊤
IsNote note.Ended = ⊤
IsNote note.Ready = ⊤
IsNote (note.Beat details) = IsText details

pub record IsNotePiece (n : NotePiece) : Type 0 where
  pub activity : IsNumber n.activity
  pub at : IsMoment n.at
  pub note : IsNote n.note
  pub times : n.times < 2 ^ 32
  pub made : 1 ≤ n.times

pub record IsCounted (c : CountedPiece) : Type 0 where
  pub dispatched : IsNumber c.dispatched
  pub accepted : AllByRecursion IsNumber c.accepted
  pub acknowledged : AllByRecursion IsNumber c.acknowledged
  pub each_shard : length c.accepted ≡ length c.acknowledged

pub record IsHint (h : Hint) : Type 0 where
  pub shard : h.shard < 2 ^ 16
  pub run : IsNumber h.run
  pub event : IsNumber h.event
  pub attempt : h.attempt < 2 ^ 32

pub record IsDispatch (d : Dispatch) : Type 0 where
  pub queue : IsId d.queue
  pub hint : IsHint d.hint

pub record IsTransferPiece (t : TransferPiece) : Type 0 where
  pub to : t.to < 2 ^ 16
  pub transfer : IsTransfer t.transfer

pub record IsEnd (e : EndPiece) : Type 0 where
  pub last : IsMoment e.last
  pub lines : IsNumber e.lines

abbrev pub IsPiece : Piece → Type 0
IsPiece (piece.Head h) = IsHead h
IsPiece (piece.Gone n) = IsNumber n
IsPiece (piece.Event e) = IsEvent e
IsPiece (piece.Request i) = IsId i
IsPiece (piece.Note n) = IsNotePiece n
IsPiece (piece.Counted c) = IsCounted c
IsPiece (piece.Dispatch d) = IsDispatch d
IsPiece (piece.Transfer t) = IsTransferPiece t
IsPiece (piece.End e) = IsEnd e
