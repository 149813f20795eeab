-- PROOF: what is known while a snapshot is written
use Rattle.std.specs.Prelude.{◌≡◌, ℕ, ◌++◌, true, Bool, List, flat_map, length, Ok}
use Rattle.std.specs.List.{AllByRecursion}
use Rattle.service_model_types.specs.declared.content.Setup.{Setup}
use Rattle.snapshot_pieces.specs.Limits.{IsPiece}
use Rattle.snapshot_pieces.specs.Trees.{line_of}
use Rattle.snapshot_pieces.specs.declared.piece.CountedPiece.{CountedPiece}
use Rattle.snapshot_pieces.specs.declared.piece.Head.{Head}
use Rattle.snapshot_pieces.specs.declared.piece.Piece.{Piece}
use Rattle.snapshot_pieces.specs.declared.piece.Piece.TheVariants as piece
use Rattle.shard_snapshot.specs.Laid.{Laid, laid_first}
use Rattle.shard_snapshot.specs.Restored.{IsLaid, RestoringView}
use Rattle.shard_snapshot.specs.Stages.{Lays, led_by}

-- a snapshot that is being written: what the shard was opened with, the lines so far, how many they are, the shard that
-- they restore, and whether it is what they lay
pub record WritingView : Type 0 where
  pub setup : Setup
  pub text : List ℕ
  pub count : ℕ
  pub shard : RestoringView
  pub is_whole : Bool

-- the text is the lines of so many pieces, and the shard is what they laid
pub record IsWritten (setup : Setup) (text : List ℕ) (n : ℕ) (r : RestoringView) : Type 0 where
  pub pieces : List Piece
  pub are_pieces : AllByRecursion IsPiece pieces
  pub lines : text ≡ flat_map line_of pieces
  pub count : length pieces ≡ n
  pub content : Laid
  pub led : led_by setup pieces ≡ Ok (Lays content)
  pub is : IsLaid r content

-- the head of a shard with this setup
abbrev pub head_of : Setup → Head
head_of setup = record { service = setup.service; shard = setup.shard; shards = setup.shards; retention = setup.retention }

-- the text is the lines of the head and of what was counted
pub record AreFirst (setup : Setup) (c : CountedPiece) (text : List ℕ) : Type 0 where
  pub head : IsPiece (piece.Head (head_of setup))
  pub counted : IsPiece (piece.Counted c)
  pub lines : text ≡ line_of (piece.Head (head_of setup)) ++ line_of (piece.Counted c)

-- two lines are written, and the shard is what was counted
pub record Starts (setup : Setup) (c : CountedPiece) (w : WritingView) : Type 0 where
  pub opened : w.setup ≡ setup
  pub whole : w.is_whole ≡ true
  pub count : w.count ≡ 2
  pub content : Laid
  pub first : laid_first setup c ≡ Ok content
  pub is : IsLaid w.shard content
