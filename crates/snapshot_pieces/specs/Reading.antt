-- PROOF: the piece that a JSON value has, and the one whose text these bytes are; keys that have another place and keys
-- that are too many are read too
use Rattle.std.specs.Prelude.{ℕ, List, codes, nat_le, length, bytes_eq, Bool, true, ◌&&◌, ◌==◌, if◌then◌else◌, Option, Some, None, Result, Ok, Err}
use Rattle.std.specs.Str.{is_utf8}
use Rattle.serde_json.specs.Data.{Data}
use Rattle.serde_json.specs.Read.{read}
use Rattle.wf_event_values.specs.declared.field.Field.TheVariants as field
use Rattle.wf_event_values.specs.declared.refusal.Refusal.{Refusal}
use Rattle.service_model_types.specs.declared.content.Dispatch.{Dispatch}
use Rattle.service_model_types.specs.declared.journal.Note.{Note}
use Rattle.service_model_types.specs.declared.journal.Note.TheVariants as note
use Rattle.wire_fields.specs.Kinds.{array_of, id_of, moment_of, number_of, span_of, string_of, text_of}
use Rattle.wire_fields.specs.Steps.{◌>>=◌, for_each}
use Rattle.wire_record_rows.specs.Keys.{inner, keyed, shard_in}
use Rattle.wire_record_events.specs.Keys.{number32_in}
use Rattle.wire_record_events.specs.Reading.{event_of}
use Rattle.wire_record_transfers.specs.Reading.{transfer_of}
use Rattle.snapshot_pieces.specs.Names.{note_kind_in, piece_kind_in, task_kind_in}
use Rattle.snapshot_pieces.specs.Trees.{piece_text}
use Rattle.snapshot_pieces.specs.declared.kinds.NoteKind.{NoteKind}
use Rattle.snapshot_pieces.specs.declared.kinds.NoteKind.TheVariants as said
use Rattle.snapshot_pieces.specs.declared.kinds.PieceKind.{PieceKind}
use Rattle.snapshot_pieces.specs.declared.kinds.PieceKind.TheVariants as kind
use Rattle.snapshot_pieces.specs.declared.piece.CountedPiece.{CountedPiece}
use Rattle.snapshot_pieces.specs.declared.piece.EndPiece.{EndPiece}
use Rattle.snapshot_pieces.specs.declared.piece.Head.{Head}
use Rattle.snapshot_pieces.specs.declared.piece.NotePiece.{NotePiece}
use Rattle.snapshot_pieces.specs.declared.piece.Piece.{Piece}
use Rattle.snapshot_pieces.specs.declared.piece.Piece.TheVariants as piece
use Rattle.snapshot_pieces.specs.declared.piece.TransferPiece.{TransferPiece}

unfoldable pub head_of : Data → Result Head Refusal
head_of d = do
  retention ← keyed span_of (codes "retention") d
  service ← keyed number_of (codes "service") d
  shard ← keyed number_of (codes "shard") d >>= shard_in
  shards ← keyed number_of (codes "shards") d >>= shard_in
  Ok (record { service = service; shard = shard; shards = shards; retention = retention })

abbrev pub said_by : NoteKind → Data → Result Note Refusal
said_by said.Taken d = Ok note.Taken
said_by said.Ended d = Ok note.Ended
said_by said.Ready d = Ok note.Ready
said_by said.Beat d = keyed text_of (codes "details") d >>= (λ t. Ok (note.Beat t))

unfoldable pub note_of : Data → Result NotePiece Refusal
note_of d = do
  activity ← keyed number_of (codes "activity") d
  at ← keyed moment_of (codes "at") d
  kind ← keyed string_of (codes "kind") d >>= note_kind_in
  note ← said_by kind d
  times ← keyed number_of (codes "times") d >>= number32_in
  Ok (record { activity = activity; at = at; note = note; times = times })

unfoldable pub counted_of : Data → Result CountedPiece Refusal
counted_of d = do
  dispatched ← keyed number_of (codes "dispatched") d
  transfers ← inner (codes "transfers") d >>= array_of field.Line
  accepted ← for_each (keyed number_of (codes "accepted")) transfers
  acknowledged ← for_each (keyed number_of (codes "acknowledged")) transfers
  Ok (record { dispatched = dispatched; accepted = accepted; acknowledged = acknowledged })

unfoldable pub dispatch_of : Data → Result Dispatch Refusal
dispatch_of d = do
  attempt ← keyed number_of (codes "attempt") d >>= number32_in
  event ← keyed number_of (codes "event") d
  kind ← keyed string_of (codes "kind") d >>= task_kind_in
  queue ← keyed id_of (codes "queue") d
  run ← keyed number_of (codes "run") d
  shard ← keyed number_of (codes "shard") d >>= shard_in
  Ok (record { queue = queue; hint = record { kind = kind; shard = shard; run = run; event = event; attempt = attempt } })

unfoldable pub waiting_of : Data → Result TransferPiece Refusal
waiting_of d = do
  to ← keyed number_of (codes "to") d >>= shard_in
  transfer ← inner (codes "transfer") d >>= transfer_of
  Ok (record { to = to; transfer = transfer })

unfoldable pub end_of : Data → Result EndPiece Refusal
end_of d = do
  last ← keyed moment_of (codes "last") d
  lines ← keyed number_of (codes "lines") d
  Ok (record { last = last; lines = lines })

abbrev pub piece_by : PieceKind → Data → Result Piece Refusal
piece_by kind.Head d = inner (codes "head") d >>= head_of >>= (λ x. Ok (piece.Head x))
piece_by kind.Gone d = keyed number_of (codes "gone") d >>= (λ x. Ok (piece.Gone x))
piece_by kind.Event d = event_of d >>= (λ x. Ok (piece.Event x))
piece_by kind.Request d = keyed id_of (codes "request_id") d >>= (λ x. Ok (piece.Request x))
piece_by kind.Note d = inner (codes "note") d >>= note_of >>= (λ x. Ok (piece.Note x))
piece_by kind.Counted d = inner (codes "counted") d >>= counted_of >>= (λ x. Ok (piece.Counted x))
piece_by kind.Dispatch d = inner (codes "dispatch") d >>= dispatch_of >>= (λ x. Ok (piece.Dispatch x))
piece_by kind.Transfer d = waiting_of d >>= (λ x. Ok (piece.Transfer x))
piece_by kind.End d = inner (codes "end") d >>= end_of >>= (λ x. Ok (piece.End x))

unfoldable pub piece_of : Data → Result Piece Refusal
piece_of d = piece_kind_in d >>= (λ k. piece_by k d)

abbrev pub if_piece : Result Piece Refusal → Option Piece
if_piece (Ok p) = Some p
if_piece (Err e) = None

-- what the types alone don't say: a note was made, and each shard has two counts
abbrev pub is_whole : Piece → Bool
is_whole (piece.Note n) = nat_le 1 n.times
is_whole (piece.Counted c) = length c.accepted == length c.acknowledged
is_whole _ = true

abbrev pub if_text_of : List ℕ → Option Piece → Option Piece
if_text_of text None = None
if_text_of text (Some p) = if is_whole p && bytes_eq (piece_text p) text then Some p else None

abbrev pub piece_in : List ℕ → Option Data → Option Piece
piece_in text None = None
piece_in text (Some d) = if_text_of text (if_piece (piece_of d))

-- the piece whose text these bytes are
unfoldable pub piece_named : List ℕ → Option Piece
piece_named bytes = if is_utf8 bytes then piece_in bytes (read bytes) else None
