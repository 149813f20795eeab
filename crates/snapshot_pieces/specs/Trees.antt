-- MEANING: a piece of a snapshot as a JSON value, and the text of its line
use Rattle.std.specs.Prelude.{ℕ, List, [], ◌∷◌, ◌++◌, codes}
use Rattle.serde_json.specs.Data.{Data, array}
use Rattle.serde_json.specs.View.{items_of}
use Rattle.serde_json.specs.Written.{compact_text}
use Rattle.wf_event_values.specs.Names.{task_kind_name}
use Rattle.service_model_types.specs.declared.content.Dispatch.{Dispatch}
use Rattle.service_model_types.specs.declared.journal.Note.{Note}
use Rattle.service_model_types.specs.declared.journal.Note.TheVariants as note
use Rattle.service_model_types.specs.Notes.{details_of}
use Rattle.wire_events.specs.Events.{event_tree}
use Rattle.wire_record_rows.specs.Rows.{Row, count, text, if_text, whole, object_of}
use Rattle.wire_record_transfers.specs.Trees.{transfer_rows}
use Rattle.snapshot_pieces.specs.declared.kinds.NoteKind.{NoteKind}
use Rattle.snapshot_pieces.specs.declared.kinds.NoteKind.TheVariants as said
use Rattle.snapshot_pieces.specs.declared.piece.CountedPiece.{CountedPiece}
use Rattle.snapshot_pieces.specs.declared.piece.EndPiece.{EndPiece}
use Rattle.snapshot_pieces.specs.declared.piece.Head.{Head}
use Rattle.snapshot_pieces.specs.declared.piece.NotePiece.{NotePiece}
use Rattle.snapshot_pieces.specs.declared.piece.Piece.{Piece}
use Rattle.snapshot_pieces.specs.declared.piece.Piece.TheVariants as piece
use Rattle.snapshot_pieces.specs.declared.piece.TransferPiece.{TransferPiece}

unfoldable pub head_rows : Head → List Row
head_rows h =
    count (codes "retention") h.retention ∷ count (codes "service") h.service ∷ count (codes "shard") h.shard
    ∷ count (codes "shards") h.shards ∷ []

-- what a note says
abbrev pub note_kind : Note → NoteKind
note_kind note.Taken = said.Taken
note_kind note.Ended = said.Ended
note_kind note.Ready = said.Ready
note_kind (note.Beat details) = said.Beat

abbrev pub note_kind_name : NoteKind → List ℕ
note_kind_name said.Taken = codes "taken"
note_kind_name said.Ended = codes "ended"
note_kind_name said.Ready = codes "ready"
note_kind_name said.Beat = codes "beat"

unfoldable pub note_rows : NotePiece → List Row
note_rows n =
    count (codes "activity") n.activity ∷ count (codes "at") n.at ∷ if_text (codes "details") (details_of n.note)
    ∷ text (codes "kind") (note_kind_name (note_kind n.note)) ∷ count (codes "times") n.times ∷ []

unfoldable pub both_rows : ℕ → ℕ → List Row
both_rows accepted acknowledged =
    count (codes "accepted") accepted ∷ count (codes "acknowledged") acknowledged ∷ []

-- both counts of each shard, as long as there are both
abbrev pub both_counts : List ℕ → List ℕ → List Data
both_counts [] ns = []
both_counts (m ∷ ms) [] = []
both_counts (m ∷ ms) (n ∷ ns) = object_of (both_rows m n) ∷ both_counts ms ns

unfoldable pub counted_rows : CountedPiece → List Row
counted_rows c =
    count (codes "dispatched") c.dispatched ∷ whole (codes "transfers") (array (items_of (both_counts c.accepted c.acknowledged))) ∷ []

unfoldable pub dispatch_rows : Dispatch → List Row
dispatch_rows d =
    count (codes "attempt") d.hint.attempt ∷ count (codes "event") d.hint.event ∷ text (codes "kind") (task_kind_name d.hint.kind)
    ∷ text (codes "queue") d.queue ∷ count (codes "run") d.hint.run ∷ count (codes "shard") d.hint.shard ∷ []

unfoldable pub waiting_rows : TransferPiece → List Row
waiting_rows t = count (codes "to") t.to ∷ whole (codes "transfer") (object_of (transfer_rows t.transfer)) ∷ []

unfoldable pub end_rows : EndPiece → List Row
end_rows e = count (codes "last") e.last ∷ count (codes "lines") e.lines ∷ []

-- an object of one key
unfoldable pub under : List ℕ → Data → List Row
under key d = whole key d ∷ []

unfoldable pub gone_rows : ℕ → List Row
gone_rows n = count (codes "gone") n ∷ []

unfoldable pub request_rows : List ℕ → List Row
request_rows id = text (codes "request_id") id ∷ []

unfoldable pub piece_tree : Piece → Data
piece_tree (piece.Head h) = object_of (under (codes "head") (object_of (head_rows h)))
piece_tree (piece.Gone n) = object_of (gone_rows n)
piece_tree (piece.Event e) = event_tree e
piece_tree (piece.Request i) = object_of (request_rows i)
piece_tree (piece.Note n) = object_of (under (codes "note") (object_of (note_rows n)))
piece_tree (piece.Counted c) = object_of (under (codes "counted") (object_of (counted_rows c)))
piece_tree (piece.Dispatch d) = object_of (under (codes "dispatch") (object_of (dispatch_rows d)))
piece_tree (piece.Transfer t) = object_of (waiting_rows t)
piece_tree (piece.End e) = object_of (under (codes "end") (object_of (end_rows e)))

-- the text of a piece, and its line
abbrev pub piece_text : Piece → List ℕ
piece_text p = compact_text (piece_tree p)

abbrev pub line_of : Piece → List ℕ
line_of p = piece_text p ++ 10 ∷ []
