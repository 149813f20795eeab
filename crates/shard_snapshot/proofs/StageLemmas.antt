-- where one more piece leads
use Rattle.std.proofs.Common.{◌≡◌, ℕ, ◌+◌, true, false, cond, List, [], ◌∷◌, ◌++◌, length, refl, ap, ◌∙◌, arith, Some, None, Result, Ok, Err}
use Rattle.std.specs.Prelude.{◌==◌}
use Rattle.service_model_types.specs.declared.content.Setup.{Setup}
use Rattle.snapshot_pieces.specs.declared.piece.CountedPiece.{CountedPiece}
use Rattle.snapshot_pieces.specs.declared.piece.EndPiece.{EndPiece}
use Rattle.snapshot_pieces.specs.declared.piece.Head.{Head}
use Rattle.snapshot_pieces.specs.declared.piece.Piece.{Piece}
use Rattle.snapshot_pieces.specs.declared.piece.Piece.TheVariants as piece
use Rattle.shard_snapshot.specs.declared.damage.Damage.{Damage}
use Rattle.shard_snapshot.specs.declared.damage.Damage.TheVariants as damage
use Rattle.shard_snapshot.specs.Laid.{Laid, end_laid, laid, laid_first, on_ok, where_so}
use Rattle.shard_snapshot.specs.SoFar.{end_in}
use Rattle.shard_snapshot.specs.Stages.{Point, AtHead, AtCounts, Lays, IsRestored, is_head, led, led_by, next}

-- one more piece
pub led-more : (setup : Setup) (n : ℕ) (x y : Point) (ps : List Piece) (p : Piece) → led setup n x ps ≡ Ok y → led setup n x (ps ++ p ∷ []) ≡ next setup (n + length ps) y p
led-more setup n x y [] p h =
    let same : x ≡ y = cc in
    let count : n ≡ n + 0 = omega arith in
    last (next setup n x p) ∙ ap (λ k. next setup k x p) count ∙ ap (λ z. next setup (n + 0) z p) same
  where
    last : (r : Result Point Damage) → on_ok r (λ z. Ok z) ≡ r
    last (Ok z) = refl
    last (Err d) = refl
led-more setup n x y (q ∷ ps) p h = by (next setup n x q) (λ z. led-more setup (n + 1) z y ps p) h
  where
    by : (r : Result Point Damage) → ((z : Point) → led setup (n + 1) z ps ≡ Ok y → led setup (n + 1) z (ps ++ p ∷ []) ≡ next setup (n + 1 + length ps) y p) →
        on_ok r (λ z. led setup (n + 1) z ps) ≡ Ok y → on_ok r (λ z. led setup (n + 1) z (ps ++ p ∷ [])) ≡ next setup (n + length (q ∷ ps)) y p
    by (Ok z) again e = again z e ∙ ap (λ k. next setup k y p) (let count : n + 1 + length ps ≡ n + length (q ∷ ps) = omega arith in count)
    by (Err d) again e = absurd (cc)

pub led-by-more : (setup : Setup) (n : ℕ) (y z : Point) (ps : List Piece) (p : Piece) → length ps ≡ n → led_by setup ps ≡ Ok y → next setup n y p ≡ Ok z → led_by setup (ps ++ p ∷ []) ≡ Ok z
led-by-more setup n y z ps p count h is = led-more setup 0 AtHead y ps p h ∙ ap (λ k. next setup k y p) (let e : 0 + length ps ≡ n = omega (arith, count) in e) ∙ is

pub end-lines : (setup : Setup) (n : ℕ) (l : Laid) (e : EndPiece) → (e.lines == n) ≡ false → next setup n (Lays l) (piece.End e) ≡ Err damage.Lines
unfolding next
end-lines setup n l e h = ap (λ b. cond b (on_ok (end_laid l e) (λ S. Ok (IsRestored S))) (Err damage.Lines)) h

pub end-next : (setup : Setup) (n : ℕ) (l : Laid) (e : EndPiece) → (e.lines == n) ≡ true → next setup n (Lays l) (piece.End e) ≡ on_ok (end_laid l e) (λ S. Ok (IsRestored S))
unfolding next
end-next setup n l e h = ap (λ b. cond b (on_ok (end_laid l e) (λ S. Ok (IsRestored S))) (Err damage.Lines)) h

pub piece-next : (setup : Setup) (n : ℕ) (l : Laid) (p : Piece) → end_in p ≡ None → next setup n (Lays l) p ≡ on_ok (laid l p) (λ m. Ok (Lays m))
unfolding next
piece-next setup n l (piece.Head h) none = refl
piece-next setup n l (piece.Gone k) none = refl
piece-next setup n l (piece.Event e) none = refl
piece-next setup n l (piece.Request id) none = refl
piece-next setup n l (piece.Note k) none = refl
piece-next setup n l (piece.Counted c) none = refl
piece-next setup n l (piece.Dispatch d) none = refl
piece-next setup n l (piece.Transfer t) none = refl
piece-next setup n l (piece.End e) none = absurd (cc)

pub end-is : (p : Piece) (e : EndPiece) → end_in p ≡ Some e → p ≡ piece.End e
end-is (piece.Head h) e some = absurd (cc)
end-is (piece.Gone k) e some = absurd (cc)
end-is (piece.Event x) e some = absurd (cc)
end-is (piece.Request id) e some = absurd (cc)
end-is (piece.Note k) e some = absurd (cc)
end-is (piece.Counted c) e some = absurd (cc)
end-is (piece.Dispatch d) e some = absurd (cc)
end-is (piece.Transfer t) e some = absurd (cc)
end-is (piece.End x) e some = ap (λ y. piece.End y) (let same : x ≡ e = cc in same)

pub head-other : (setup : Setup) (n : ℕ) (h : Head) → is_head setup h ≡ false → next setup n AtHead (piece.Head h) ≡ Err damage.Settings
unfolding next
head-other setup n h other = ap (λ b. where_so b damage.Settings AtCounts) other

pub head-next : (setup : Setup) (n : ℕ) (h : Head) → is_head setup h ≡ true → next setup n AtHead (piece.Head h) ≡ Ok AtCounts
unfolding next
head-next setup n h own = ap (λ b. where_so b damage.Settings AtCounts) own

pub counts-next : (setup : Setup) (n : ℕ) (c : CountedPiece) → next setup n AtCounts (piece.Counted c) ≡ on_ok (laid_first setup c) (λ l. Ok (Lays l))
unfolding next
counts-next setup n c = refl

pub no-head : (setup : Setup) (n : ℕ) (p : Piece) → ((x : Head) → p ≡ piece.Head x → ⊥) → next setup n AtHead p ≡ Err damage.Order
unfolding next
no-head setup n (piece.Head h) other = absurd (other h refl)
no-head setup n (piece.Gone k) other = refl
no-head setup n (piece.Event e) other = refl
no-head setup n (piece.Request id) other = refl
no-head setup n (piece.Note k) other = refl
no-head setup n (piece.Counted c) other = refl
no-head setup n (piece.Dispatch d) other = refl
no-head setup n (piece.Transfer t) other = refl
no-head setup n (piece.End e) other = refl

pub no-counts : (setup : Setup) (n : ℕ) (p : Piece) → ((x : CountedPiece) → p ≡ piece.Counted x → ⊥) → next setup n AtCounts p ≡ Err damage.Order
unfolding next
no-counts setup n (piece.Head h) other = refl
no-counts setup n (piece.Gone k) other = refl
no-counts setup n (piece.Event e) other = refl
no-counts setup n (piece.Request id) other = refl
no-counts setup n (piece.Note k) other = refl
no-counts setup n (piece.Counted c) other = absurd (other c refl)
no-counts setup n (piece.Dispatch d) other = refl
no-counts setup n (piece.Transfer t) other = refl
no-counts setup n (piece.End e) other = refl
