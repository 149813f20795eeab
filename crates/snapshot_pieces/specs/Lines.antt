-- MEANING: the next piece of an input of which some bytes were read ahead, and why there is none
use Rattle.std.specs.Prelude.{◌≡◌, ℕ, List, [], ◌∷◌, ◌++◌, false, flat_map, Option}
use Rattle.std.specs.List.{AllByRecursion}
use Rattle.std.specs.Io.KnownBytes.{Consumes, IsAtEnd}
use Rattle.wire_counted.specs.Failures.{Rose}
use Rattle.wire_lines.specs.Pending.{has_feed}
use Rattle.snapshot_pieces.specs.Limits.{IsPiece}
use Rattle.snapshot_pieces.specs.Trees.{line_of, piece_text}
use Rattle.snapshot_pieces.specs.declared.lines.PieceFault.{PieceFault}
use Rattle.snapshot_pieces.specs.declared.lines.PieceFault.TheVariants.{Memory, Read, NoPiece, Cut}
use Rattle.snapshot_pieces.specs.declared.piece.Piece.{Piece}

-- more of the input was read
pub record ReadsMore (unread unread' : Option (List ℕ)) (ahead ahead' : List ℕ) : Type 0 where
  pub chunk : List ℕ
  pub read : Consumes unread unread' chunk
  pub joined : ahead' ≡ ahead ++ chunk

-- what was read ahead and what was read now begins with this piece's line
pub record TakesPiece (unread unread' : Option (List ℕ)) (ahead ahead' : List ℕ) (p : Piece) : Type 0 where
  pub chunk : List ℕ
  pub read : Consumes unread unread' chunk
  pub is_piece : IsPiece p
  pub line : ahead ++ chunk ≡ line_of p ++ ahead'

-- the input is at its end, and all was taken
pub record EndsThere (unread unread' : Option (List ℕ)) (ahead : List ℕ) : Type 0 where
  pub chunk : List ℕ
  pub read : Consumes unread unread' chunk
  pub at_end : IsAtEnd unread'
  pub nothing : ahead ++ chunk ≡ []

-- these pieces were read one after another, and what was read ahead is left
pub record HasRead (unread unread' : Option (List ℕ)) (ahead : List ℕ) (ps : List Piece) : Type 0 where
  pub text : List ℕ
  pub read : Consumes unread unread' text
  pub are_pieces : AllByRecursion IsPiece ps
  pub lines : text ≡ flat_map line_of ps ++ ahead

-- the first line is the text of no piece
pub record HasNoPiece (text : List ℕ) : Type 0 where
  pub line : List ℕ
  pub behind : List ℕ
  pub parts : text ≡ line ++ 10 ∷ behind
  pub first : has_feed line ≡ false
  pub none : (p : Piece) → IsPiece p → line ≡ piece_text p → ⊥

pub record BeginsWithNoPiece (unread unread' : Option (List ℕ)) (ahead : List ℕ) : Type 0 where
  pub chunk : List ℕ
  pub read : Consumes unread unread' chunk
  pub bad : HasNoPiece (ahead ++ chunk)

-- the input is at its end, within a line
pub record IsCut (unread unread' : Option (List ℕ)) (ahead : List ℕ) : Type 0 where
  pub chunk : List ℕ
  pub read : Consumes unread unread' chunk
  pub at_end : IsAtEnd unread'
  pub no_line : has_feed (ahead ++ chunk) ≡ false
  pub some : ahead ++ chunk ≡ [] → ⊥

-- a fault: of memory, of the reader where its count rose, or what is there instead of a piece
abbrev pub IsFault : PieceFault → (unread unread' : Option (List ℕ)) → (ahead : List ℕ) → ℕ → ℕ → Type 0
IsFault Memory unread unread' ahead old new = Unit {0}
IsFault (Read e) unread unread' ahead old new = Rose old new
IsFault NoPiece unread unread' ahead old new = BeginsWithNoPiece unread unread' ahead
IsFault Cut unread unread' ahead old new = IsCut unread unread' ahead

-- which fault there is in what was read
abbrev pub IsLineFault : PieceFault → List ℕ → Type 0
IsLineFault Memory text = Unit {0}
IsLineFault (Read e) text = ⊥
IsLineFault NoPiece text = HasNoPiece text
IsLineFault Cut text = ⊥
