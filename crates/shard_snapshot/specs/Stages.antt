-- MEANING: what a whole snapshot restores, piece after piece, and which content a text spells
use Rattle.std.specs.Prelude.{◌≡◌, ℕ, ◌+◌, ◌==◌, ◌&&◌, Bool, if◌then◌else◌, List, [], ◌∷◌, flat_map, length, Result, Ok, Err}
use Rattle.std.specs.List.{AllByRecursion}
use Rattle.service_model_types.specs.declared.content.Content.{Content}
use Rattle.service_model_types.specs.declared.content.Dispatch.{Dispatch}
use Rattle.service_model_types.specs.declared.content.Setup.{Setup}
use Rattle.snapshot_pieces.specs.Limits.{IsPiece}
use Rattle.snapshot_pieces.specs.Trees.{line_of}
use Rattle.snapshot_pieces.specs.declared.piece.Head.{Head}
use Rattle.snapshot_pieces.specs.declared.piece.Piece.{Piece}
use Rattle.snapshot_pieces.specs.declared.piece.Piece.TheVariants as piece
use Rattle.shard_snapshot.specs.declared.damage.Damage.{Damage}
use Rattle.shard_snapshot.specs.declared.damage.Damage.TheVariants as damage
use Rattle.shard_snapshot.specs.Laid.{Laid, end_laid, laid, laid_first, on_ok, where_so}

-- how far a snapshot was restored
pub data Point : Type 0 where
  AtHead : Point
  AtCounts : Point
  Lays : Laid → Point
  IsRestored : Content → Point

-- whether a head is that of a shard with this setup
abbrev pub is_head : Setup → Head → Bool
is_head setup h = (h.service == setup.service) && ((h.shard == setup.shard) && ((h.shards == setup.shards) && (h.retention == setup.retention)))

-- where one more piece leads, after so many
unfoldable pub next : Setup → ℕ → Point → Piece → Result Point Damage
next setup n AtHead (piece.Head h) = where_so (is_head setup h) damage.Settings AtCounts
next setup n AtCounts (piece.Counted c) = on_ok (laid_first setup c) (λ l. Ok (Lays l))
next setup n (Lays l) (piece.End e) = if e.lines == n then on_ok (end_laid l e) (λ S. Ok (IsRestored S)) else Err damage.Lines
next setup n (Lays l) p = on_ok (laid l p) (λ m. Ok (Lays m))
next setup n _ p = Err damage.Order

-- where pieces lead, after so many
abbrev pub led : Setup → ℕ → Point → List Piece → Result Point Damage
led setup n x [] = Ok x
led setup n x (p ∷ ps) = on_ok (next setup n x p) (λ y. led setup (n + 1) y ps)

-- where they lead from the first on
abbrev pub led_by : Setup → List Piece → Result Point Damage
led_by setup ps = led setup 0 AtHead ps

-- the text is the lines of pieces that restore this content of a shard with this setup
pub record Spells (setup : Setup) (text : List ℕ) (S : Content) : Type 0 where
  pub pieces : List Piece
  pub are_pieces : AllByRecursion IsPiece pieces
  pub lines : text ≡ flat_map line_of pieces
  pub restores : led_by setup pieces ≡ Ok (IsRestored S)

-- what is so of each content that is restored for a shard with this setup: it has the setup, a count for each shard, and
-- dispatches of its own
pub record IsOfShard (own : Setup) (S : Content) : Type 0 where
  pub setup : S.setup ≡ own
  pub accepted : length S.accepted ≡ own.shards
  pub dispatches : AllByRecursion (λ (d : Dispatch). d.hint.shard ≡ own.shard) S.dispatches
