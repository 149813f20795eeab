-- what a text restores, and why it restores nothing
use Rattle.std.proofs.Common.{◌≡◌, ◌≢◌, inl, inr, ℕ, ◌+◌, ◌≤◌, List, [], ◌∷◌, ◌++◌, flat_map, length, length-append, refl, sym, ap, ◌∙◌, subst, arith, Option, Ok, Err}
use Rattle.service_model_types.specs.declared.content.Content.{Content}
use Rattle.service_model_types.specs.declared.content.Setup.{Setup}
use Rattle.shard_store.specs.ShardView.{ShardView}
use Rattle.shard_store.specs.Standing.{StandsFor}
use Rattle.snapshot_pieces.specs.Lines.{EndsThere, HasRead, TakesPiece}
use Rattle.snapshot_pieces.specs.Trees.{line_of}
use Rattle.snapshot_pieces.specs.declared.piece.Piece.{Piece}
use Rattle.snapshot_pieces.proofs.ReadLemmas.{all_read, none_read, one_more}
use Rattle.shard_snapshot.specs.declared.damage.Damage.{Damage}
use Rattle.shard_snapshot.specs.declared.damage.Damage.TheVariants as damage
use Rattle.shard_snapshot.specs.declared.fault.RestoreFault.{RestoreFault}
use Rattle.shard_snapshot.specs.declared.fault.RestoreFault.TheVariants.{Memory, Read, Damaged}
use Rattle.shard_snapshot.specs.Laid.{Laid}
use Rattle.shard_snapshot.specs.Restored.{IsFault, IsLaid, RestoringView}
use Rattle.shard_snapshot.specs.SoFar.{IsNextFault, IsPieceFault, IsSoFar, IsTailFault, fault_of}
use Rattle.shard_snapshot.specs.Stages.{Point, AtHead, AtCounts, Lays, IsRestored, led_by, next}
use Rattle.shard_snapshot.specs.Texts.{IsDamaged, IsRestoreFault, IsUnfinished, Restores}
use Rattle.shard_snapshot.proofs.StageLemmas.{led-by-more}

-- so many pieces were read, which lead to a point
pub record Leads (setup : Setup) (u m : Option (List ℕ)) (ahead : List ℕ) (n : ℕ) (x : Point) : Type 0 where
  pub pieces : List Piece
  pub have_read : HasRead u m ahead pieces
  pub count : length pieces ≡ n
  pub led : led_by setup pieces ≡ Ok x

pub leads-none : (setup : Setup) (u : Option (List ℕ)) (ahead : List ℕ) → ahead ≡ [] → Leads setup u u ahead 0 AtHead
leads-none setup u ahead none = subst (λ a. Leads setup u u a 0 AtHead) (sym none) (record { pieces = []; have_read = none_read u; count = refl; led = refl })

pub leads-more : (setup : Setup) (u m m' : Option (List ℕ)) (ahead ahead' : List ℕ) (n : ℕ) (x y : Point) (p : Piece) → Leads setup u m ahead n x → TakesPiece m m' ahead ahead' p → next setup n x p ≡ Ok y → Leads setup u m' ahead' (n + 1) y
leads-more setup u m m' ahead ahead' n x y p h takes is = record {
  pieces = h.pieces ++ p ∷ [];
  have_read = one_more u m m' ahead ahead' h.pieces p h.have_read takes;
  count = (let many = length-append h.pieces (p ∷ []) in let c = h.count in omega (arith, many, c));
  led = led-by-more setup n x y h.pieces p h.count h.led is;
}

pub leads-so-far : (setup : Setup) (u m : Option (List ℕ)) (ahead : List ℕ) (n : ℕ) (r : RestoringView) (l : Laid) → Leads setup u m ahead n (Lays l) → IsLaid r l → IsSoFar setup u m ahead n r
leads-so-far setup u m ahead n r l h is = record { pieces = h.pieces; have_read = h.have_read; count = h.count; content = l; led = h.led; is = is }

pub so-far-leads : (setup : Setup) (u m : Option (List ℕ)) (ahead : List ℕ) (n : ℕ) (r : RestoringView) → (h : IsSoFar setup u m ahead n r) → Leads setup u m ahead n (Lays h.content)
so-far-leads setup u m ahead n r h = record { pieces = h.pieces; have_read = h.have_read; count = h.count; led = h.led }

pub unfinished-head : IsUnfinished AtHead
unfinished-head S e = absurd (cc)

pub unfinished-counts : IsUnfinished AtCounts
unfinished-counts S e = absurd (cc)

pub unfinished-pieces : (l : Laid) → IsUnfinished (Lays l)
unfinished-pieces l S e = absurd (cc)

-- there is no next piece
pub no-piece : (setup : Setup) (u m u' : Option (List ℕ)) (ahead : List ℕ) (n : ℕ) (x : Point) (e : RestoreFault) (old mid new : ℕ) → Leads setup u m ahead n x → IsUnfinished x → old ≤ mid →
    IsPieceFault e n m u' ahead mid new → IsRestoreFault setup e u u' old new
no-piece setup u m u' ahead n x Memory old mid new h before more fault = tt
no-piece setup u m u' ahead n x (Read e) old mid new h before more fault = omega (arith, more, fault)
no-piece setup u m u' ahead n x (Damaged line d) old mid new h before more fault = record {
  pieces = h.pieces;
  middle = m;
  ahead = ahead;
  so_far = h.have_read;
  count = (let a = fault.0 in let c = h.count in omega (arith, a, c));
  point = x;
  led = h.led;
  why = inl (fault.1 x before);
}

-- the next piece leads nowhere
pub nowhere : (setup : Setup) (u m u' : Option (List ℕ)) (ahead behind : List ℕ) (n : ℕ) (x : Point) (p : Piece) (d : Damage) (line : ℕ) → Leads setup u m ahead n x → TakesPiece m u' ahead behind p → next setup n x p ≡ Err d → line ≡ n + 1 →
    IsDamaged setup u u' line d
nowhere setup u m u' ahead behind n x p d line h takes none is = record {
  pieces = h.pieces;
  middle = m;
  ahead = ahead;
  so_far = h.have_read;
  count = (let c = h.count in omega (arith, is, c));
  point = x;
  led = h.led;
  why = inr (record { piece = p; behind = behind; takes = takes; nowhere = ap (λ k. next setup k x p) h.count ∙ none });
}

pub next-fault : (setup : Setup) (u m u' : Option (List ℕ)) (ahead behind : List ℕ) (n : ℕ) (x : Point) (p : Piece) (e : RestoreFault) (old new : ℕ) → Leads setup u m ahead n x → TakesPiece m u' ahead behind p →
    IsNextFault n (next setup n x p) e → IsRestoreFault setup e u u' old new
next-fault setup u m u' ahead behind n x p e old new h takes (d, is, fault) = subst (λ f. IsRestoreFault setup f u u' old new) (sym is) (by d fault)
  where
    here : (d : Damage) → d ≢ damage.NoMemory → IsFault (next setup n x p) d → IsDamaged setup u u' (n + 1) d
    here d other f = nowhere setup u m u' ahead behind n x p d (n + 1) h takes (f other) refl

    by : (d : Damage) → IsFault (next setup n x p) d → IsRestoreFault setup (fault_of n d) u u' old new
    by damage.Order f = here damage.Order (λ e. absurd (cc)) f
    by damage.Count f = here damage.Count (λ e. absurd (cc)) f
    by damage.Fact f = here damage.Fact (λ e. absurd (cc)) f
    by damage.Run f = here damage.Run (λ e. absurd (cc)) f
    by damage.Issue f = here damage.Issue (λ e. absurd (cc)) f
    by damage.Settings f = here damage.Settings (λ e. absurd (cc)) f
    by damage.Lines f = here damage.Lines (λ e. absurd (cc)) f
    by damage.NoPiece f = here damage.NoPiece (λ e. absurd (cc)) f
    by damage.Cut f = here damage.Cut (λ e. absurd (cc)) f
    by damage.NoMemory f = tt

-- there is more after the end
pub tail-fault : (setup : Setup) (u m u' : Option (List ℕ)) (ahead : List ℕ) (n : ℕ) (S : Content) (e : RestoreFault) (old mid new : ℕ) → Leads setup u m ahead n (IsRestored S) → old ≤ mid →
    IsTailFault e n m u' ahead mid new → IsRestoreFault setup e u u' old new
unfolding next
tail-fault setup u m u' ahead n S Memory old mid new h more fault = tt
tail-fault setup u m u' ahead n S (Read e) old mid new h more fault = omega (arith, more, fault)
tail-fault setup u m u' ahead n S (Damaged line d) old mid new h more (is, inl none) = record {
  pieces = h.pieces;
  middle = m;
  ahead = ahead;
  so_far = h.have_read;
  count = (let c = h.count in omega (arith, is, c));
  point = IsRestored S;
  led = h.led;
  why = inl (none (IsRestored S));
}
tail-fault setup u m u' ahead n S (Damaged line d) old mid new h more (is, inr other) =
    nowhere setup u m u' ahead other.behind n (IsRestored S) other.piece d line h other.takes (ap (λ x. Err x) (sym other.is)) is

-- the whole was read
pub restored : (setup : Setup) (u m u' : Option (List ℕ)) (ahead : List ℕ) (n : ℕ) (S : Content) (store : ShardView) → Leads setup u m ahead n (IsRestored S) → EndsThere m u' ahead → StandsFor store S → Restores setup u u' store
restored setup u m u' ahead n S store h ends stands = record {
  text = flat_map line_of h.pieces;
  read = all_read u m u' ahead h.pieces h.have_read ends;
  at_end = ends.at_end;
  content = S;
  spells = record { pieces = h.pieces; are_pieces = h.have_read.are_pieces; lines = refl; restores = h.led };
  stands = stands;
}
