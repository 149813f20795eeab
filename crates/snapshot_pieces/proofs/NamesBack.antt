-- names of what pieces say are read again, and a piece's kind is told by its keys
use Rattle.std.proofs.Common.{◌≡◌, refl, ap}
use Rattle.std.specs.Prelude.{Ok}
use Rattle.wf_event_values.specs.declared.policies.TaskKind.{TaskKind}
use Rattle.wf_event_values.specs.declared.policies.TaskKind.TheVariants.{Workflow, Activity}
use Rattle.wf_event_values.specs.Names.{task_kind_name}
use Rattle.wire_record_events.proofs.TreeLemmas.{tree_is}
use Rattle.wire_record_events.specs.Trees.{event_rows}
use Rattle.wire_record_rows.specs.Rows.{members_of}
use Rattle.snapshot_pieces.specs.Names.{note_kind_in, piece_kind_in, task_kind_in}
use Rattle.snapshot_pieces.specs.Trees.{gone_rows, note_kind_name, piece_tree, request_rows, under, waiting_rows}
use Rattle.snapshot_pieces.specs.declared.kinds.NoteKind.{NoteKind}
use Rattle.snapshot_pieces.specs.declared.kinds.NoteKind.TheVariants as said
use Rattle.snapshot_pieces.specs.declared.kinds.PieceKind.{PieceKind}
use Rattle.snapshot_pieces.specs.declared.kinds.PieceKind.TheVariants as kind
use Rattle.snapshot_pieces.specs.declared.piece.Piece.{Piece}
use Rattle.snapshot_pieces.specs.declared.piece.Piece.TheVariants as piece

pub note_kind_back : (x : NoteKind) → note_kind_in (note_kind_name x) ≡ Ok x
note_kind_back said.Taken = refl
note_kind_back said.Ended = refl
note_kind_back said.Ready = refl
note_kind_back said.Beat = refl

pub task_kind_back : (x : TaskKind) → task_kind_in (task_kind_name x) ≡ Ok x
task_kind_back Workflow = refl
task_kind_back Activity = refl

abbrev pub kind_of : Piece → PieceKind
kind_of (piece.Head h) = kind.Head
kind_of (piece.Gone n) = kind.Gone
kind_of (piece.Event e) = kind.Event
kind_of (piece.Request i) = kind.Request
kind_of (piece.Note n) = kind.Note
kind_of (piece.Counted c) = kind.Counted
kind_of (piece.Dispatch d) = kind.Dispatch
kind_of (piece.Transfer t) = kind.Transfer
kind_of (piece.End e) = kind.End

pub kind_back : (p : Piece) → piece_kind_in (piece_tree p) ≡ Ok (kind_of p)
unfolding piece_tree under gone_rows request_rows waiting_rows event_rows members_of
kind_back (piece.Head h) = refl
kind_back (piece.Gone n) = refl
kind_back (piece.Event e) = ap piece_kind_in (tree_is e)
kind_back (piece.Request i) = refl
kind_back (piece.Note n) = refl
kind_back (piece.Counted c) = refl
kind_back (piece.Dispatch d) = refl
kind_back (piece.Transfer t) = refl
kind_back (piece.End e) = refl
