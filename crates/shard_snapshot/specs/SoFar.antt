-- PROOF: what is known while a text is restored
use Rattle.std.specs.Prelude.{◌≡◌, ◌⊎◌, ℕ, ◌+◌, List, length, MatchResult, Option, None, Some, Result, Ok}
use Rattle.service_model_types.specs.declared.content.Content.{Content}
use Rattle.service_model_types.specs.declared.content.Setup.{Setup}
use Rattle.wire_counted.specs.Failures.{Rose}
use Rattle.snapshot_pieces.specs.Lines.{HasRead, TakesPiece}
use Rattle.shard_store.specs.ShardView.{ShardView}
use Rattle.shard_store.specs.Standing.{StandsFor}
use Rattle.snapshot_pieces.specs.declared.piece.EndPiece.{EndPiece}
use Rattle.snapshot_pieces.specs.declared.piece.Piece.{Piece}
use Rattle.snapshot_pieces.specs.declared.piece.Piece.TheVariants as piece
use Rattle.shard_snapshot.specs.declared.damage.Damage.{Damage}
use Rattle.shard_snapshot.specs.declared.damage.Damage.TheVariants.{NoMemory, Order}
use Rattle.shard_snapshot.specs.declared.fault.RestoreFault.{RestoreFault}
use Rattle.shard_snapshot.specs.declared.fault.RestoreFault.TheVariants.{Memory, Read, Damaged}
use Rattle.shard_snapshot.specs.Laid.{Laid, laid}
use Rattle.shard_snapshot.specs.Restored.{IsFault, IsLaid, RestoringView}
use Rattle.shard_snapshot.specs.Stages.{Point, IsRestored, Lays, led_by, next}
use Rattle.shard_snapshot.specs.Texts.{IsNoPiece, IsUnfinished}

-- so many pieces were read, and the shard that is being restored is what they laid
pub record IsSoFar (setup : Setup) (unread unread' : Option (List ℕ)) (ahead : List ℕ) (n : ℕ) (r : RestoringView) : Type 0 where
  pub pieces : List Piece
  pub have_read : HasRead unread unread' ahead pieces
  pub count : length pieces ≡ n
  pub content : Laid
  pub led : led_by setup pieces ≡ Ok (Lays content)
  pub is : IsLaid r content

-- there is a piece
pub record IsMore (unread unread' : Option (List ℕ)) (ahead : List ℕ) (d : Damage) : Type 0 where
  pub is : d ≡ Order
  pub piece : Piece
  pub behind : List ℕ
  pub takes : TakesPiece unread unread' ahead behind piece

-- why there is no next piece, after so many
abbrev pub IsPieceFault : RestoreFault → ℕ → (unread unread' : Option (List ℕ)) → List ℕ → ℕ → ℕ → Type 0
IsPieceFault Memory n unread unread' ahead old new = Unit {0}
IsPieceFault (Read e) n unread unread' ahead old new = Rose old new
IsPieceFault (Damaged line d) n unread unread' ahead old new = (line ≡ n + 1) × ((x : Point) → IsUnfinished x → IsNoPiece unread unread' ahead x d)

-- why there is not nothing, after so many
abbrev pub IsTailFault : RestoreFault → ℕ → (unread unread' : Option (List ℕ)) → List ℕ → ℕ → ℕ → Type 0
IsTailFault Memory n unread unread' ahead old new = Unit {0}
IsTailFault (Read e) n unread unread' ahead old new = Rose old new
IsTailFault (Damaged line d) n unread unread' ahead old new =
    (line ≡ n + 1) × (((x : Point) → IsNoPiece unread unread' ahead x d) ⊎ IsMore unread unread' ahead d)

-- the end that a piece is
abbrev pub end_in : Piece → Option EndPiece
end_in (piece.End e) = Some e
end_in _ = None

-- the fault of a piece that lays nothing, after so many
abbrev pub fault_of : ℕ → Damage → RestoreFault
fault_of n NoMemory = Memory
fault_of n d = Damaged (n + 1) d

-- a fault is that of the damage that is given
abbrev pub IsNextFault : {A : Type 0} → ℕ → Result A Damage → RestoreFault → Type 0
IsNextFault n given e = (d : Damage) × (e ≡ fault_of n d) × IsFault given d

-- what came of the end, after so many pieces
abbrev pub Finishes : Result ShardView RestoreFault → RestoringView → ℕ → EndPiece → Type 0
Finishes result r n e = (setup : Setup) (l : Laid) → IsLaid r l
    → MatchResult result (λ store. (S : Content) × (next setup n (Lays l) (piece.End e) ≡ Ok (IsRestored S)) × StandsFor store S)
    (IsNextFault n (next setup n (Lays l) (piece.End e)))

-- what came of another piece
abbrev pub Puts : Result (Unit {0}) RestoreFault → RestoringView → RestoringView → ℕ → Piece → Type 0
Puts result old new n p = (l : Laid) → IsLaid old l
    → MatchResult result (λ u. (m : Laid) × (laid l p ≡ Ok m) × IsLaid new m) (IsNextFault n (laid l p))
