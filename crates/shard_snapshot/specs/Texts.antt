-- MEANING: a shard that is restored from a text, and why a text restores none
use Rattle.std.specs.Prelude.{◌≡◌, ◌⊎◌, ℕ, ◌+◌, List, length, Option, Some, Ok, Err}
use Rattle.std.specs.Io.KnownBytes.{Consumes, IsAtEnd}
use Rattle.service_model_types.specs.declared.content.Content.{Content}
use Rattle.service_model_types.specs.declared.content.Setup.{Setup}
use Rattle.wire_counted.specs.Failures.{Rose}
use Rattle.shard_store.specs.ShardView.{ShardView}
use Rattle.shard_store.specs.Standing.{StandsFor}
use Rattle.snapshot_pieces.specs.Lines.{BeginsWithNoPiece, EndsThere, HasRead, IsCut, TakesPiece}
use Rattle.snapshot_pieces.specs.declared.piece.Piece.{Piece}
use Rattle.shard_snapshot.specs.declared.damage.Damage.{Damage}
use Rattle.shard_snapshot.specs.declared.damage.Damage.TheVariants as damage
use Rattle.shard_snapshot.specs.declared.fault.RestoreFault.{RestoreFault}
use Rattle.shard_snapshot.specs.declared.fault.RestoreFault.TheVariants.{Memory, Read, Damaged}
use Rattle.shard_snapshot.specs.Stages.{Point, IsRestored, Spells, led_by, next}

-- the whole input was read; it spells a content, and the shard stands for that
pub record Restores (setup : Setup) (unread unread' : Option (List ℕ)) (shard : ShardView) : Type 0 where
  pub text : List ℕ
  pub read : Consumes unread unread' text
  pub at_end : IsAtEnd unread'
  pub content : Content
  pub spells : Spells setup text content
  pub stands : StandsFor shard content

-- the text spells a content, and the shard stands for that
pub record IsSnapshot (setup : Setup) (text : List ℕ) (shard : ShardView) : Type 0 where
  pub content : Content
  pub spells : Spells setup text content
  pub stands : StandsFor shard content

-- a point before the end
abbrev pub IsUnfinished : Point → Type 0
IsUnfinished x = (S : Content) → x ≡ IsRestored S → ⊥

-- there is no piece: a line is the text of none, or the input ends, within a line or before the end
abbrev pub IsNoPiece : (unread unread' : Option (List ℕ)) → List ℕ → Point → Damage → Type 0
IsNoPiece unread unread' ahead x d =
    ((d ≡ damage.NoPiece) × BeginsWithNoPiece unread unread' ahead)
    ⊎ ((d ≡ damage.Cut) × (IsCut unread unread' ahead ⊎ (EndsThere unread unread' ahead × IsUnfinished x)))

-- there is a piece that leads nowhere, after so many
pub record LeadsNowhere (setup : Setup) (unread unread' : Option (List ℕ)) (ahead : List ℕ) (n : ℕ) (x : Point) (d : Damage) : Type 0 where
  pub piece : Piece
  pub behind : List ℕ
  pub takes : TakesPiece unread unread' ahead behind piece
  pub nowhere : next setup n x piece ≡ Err d

-- the line of this number is damaged so: the pieces before it lead to a point, and it leads on to none
pub record IsDamaged (setup : Setup) (unread unread' : Option (List ℕ)) (line : ℕ) (d : Damage) : Type 0 where
  pub pieces : List Piece
  pub middle : Option (List ℕ)
  pub ahead : List ℕ
  pub so_far : HasRead unread middle ahead pieces
  pub count : line ≡ length pieces + 1
  pub point : Point
  pub led : led_by setup pieces ≡ Ok point
  pub why : IsNoPiece middle unread' ahead point d ⊎ LeadsNowhere setup middle unread' ahead (length pieces) point d

-- a fault: of memory, of the reader where its count rose, or a line that is damaged
abbrev pub IsRestoreFault : Setup → RestoreFault → (unread unread' : Option (List ℕ)) → ℕ → ℕ → Type 0
IsRestoreFault setup Memory unread unread' old new = Unit {0}
IsRestoreFault setup (Read e) unread unread' old new = Rose old new
IsRestoreFault setup (Damaged line d) unread unread' old new = IsDamaged setup unread unread' line d

-- the same of a whole text, that a reader gives which begins with no failures
pub record IsTextFault (setup : Setup) (e : RestoreFault) (text : List ℕ) : Type 0 where
  pub unread : Option (List ℕ)
  pub failures : ℕ
  pub fault : IsRestoreFault setup e (Some text) unread 0 failures
