-- PROOF: names of notes and of kinds of task, read, and which kind of piece a JSON value is by its keys
use Rattle.std.specs.Prelude.{ℕ, List, [], ◌∷◌, codes, Bool, if◌then◌else◌, Option, Some, None, Result}
use Rattle.std.specs.Option.{is_some, ok_or}
use Rattle.serde_json.specs.Data.{Data}
use Rattle.serde_json.specs.Find.{get}
use Rattle.wf_event_values.specs.declared.field.Field.TheVariants as field
use Rattle.wf_event_values.specs.declared.policies.TaskKind.{TaskKind}
use Rattle.wf_event_values.specs.declared.policies.TaskKind.TheVariants.{Workflow, Activity}
use Rattle.wf_event_values.specs.declared.refusal.Refusal.{Refusal}
use Rattle.wf_event_values.specs.declared.refusal.Refusal.TheVariants.{InvalidArgument}
use Rattle.wf_event_values.specs.Names.{task_kind_name}
use Rattle.wire_fields.specs.Kinds.{named}
use Rattle.snapshot_pieces.specs.Trees.{note_kind_name}
use Rattle.snapshot_pieces.specs.declared.kinds.NoteKind.{NoteKind}
use Rattle.snapshot_pieces.specs.declared.kinds.NoteKind.TheVariants as said
use Rattle.snapshot_pieces.specs.declared.kinds.PieceKind.{PieceKind}
use Rattle.snapshot_pieces.specs.declared.kinds.PieceKind.TheVariants as kind

abbrev pub note_kind_named : List ℕ → Option NoteKind
note_kind_named = named note_kind_name (said.Taken ∷ said.Ended ∷ said.Ready ∷ said.Beat ∷ [])

abbrev pub note_kind_in : List ℕ → Result NoteKind Refusal
note_kind_in text = ok_or (note_kind_named text) (InvalidArgument field.Line)

abbrev pub task_kind_named : List ℕ → Option TaskKind
task_kind_named = named task_kind_name (Workflow ∷ Activity ∷ [])

abbrev pub task_kind_in : List ℕ → Result TaskKind Refusal
task_kind_in text = ok_or (task_kind_named text) (InvalidArgument field.Line)

-- whether a key is there
abbrev pub has : List ℕ → Data → Bool
has key d = is_some (get key d)

-- the kind of piece, by the key that only such a piece has
abbrev pub piece_kind : Data → Option PieceKind
piece_kind d =
    if has (codes "attrs") d then Some kind.Event else if has (codes "request_id") d then Some kind.Request
    else if has (codes "note") d then Some kind.Note else if has (codes "gone") d then Some kind.Gone
    else if has (codes "dispatch") d then Some kind.Dispatch else if has (codes "transfer") d then Some kind.Transfer
    else if has (codes "counted") d then Some kind.Counted else if has (codes "head") d then Some kind.Head
    else if has (codes "end") d then Some kind.End else None

abbrev pub piece_kind_in : Data → Result PieceKind Refusal
piece_kind_in d = ok_or (piece_kind d) (InvalidArgument field.Line)
