-- MEANING: the content that a text spells, found by its lines
use Rattle.std.specs.Prelude.{ℕ, List, [], filter_map, Option, Some, None, Result, Ok, Err}
use Rattle.service_model_types.specs.declared.content.Content.{Content}
use Rattle.service_model_types.specs.declared.content.Setup.{Setup}
use Rattle.wire_lines.specs.Pending.{ended}
use Rattle.snapshot_pieces.specs.Reading.{piece_named}
use Rattle.snapshot_pieces.specs.declared.piece.Piece.{Piece}
use Rattle.shard_snapshot.specs.declared.damage.Damage.{Damage}
use Rattle.shard_snapshot.specs.Stages.{Point, AtHead, AtCounts, Lays, IsRestored, led_by}

-- the pieces whose texts are lines of a text
abbrev pub pieces_in : List ℕ → List Piece
pieces_in text = filter_map piece_named (ended [] text)

-- the content that is restored at a point, if one is
abbrev pub restored_at : Point → Option Content
restored_at AtHead = None
restored_at AtCounts = None
restored_at (Lays l) = None
restored_at (IsRestored S) = Some S

abbrev pub restored_in : Result Point Damage → Option Content
restored_in (Ok x) = restored_at x
restored_in (Err d) = None

-- the content that a text spells, if it spells one
unfoldable pub content_in : Setup → List ℕ → Option Content
content_in setup text = restored_in (led_by setup (pieces_in text))
