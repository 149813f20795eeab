-- a snapshot that is being written, line by line
use Rattle.std.proofs.Common.{◌≡◌, ℕ, ◌+◌, Bool, true, false, List, [], ◌∷◌, ◌++◌, length-append, refl, sym, ap, ◌∙◌, subst, arith, append-nil, None, Ok, Result}
use Rattle.std.specs.Prelude.{◌==◌, ◌&&◌}
use Rattle.service_model_types.specs.declared.content.Content.{Content}
use Rattle.service_model_types.specs.declared.content.Setup.{Setup}
use Rattle.shard_store.specs.ShardView.{ShardState, ShardView}
use Rattle.shard_store.specs.Standing.{StandsFor}
use Rattle.snapshot_pieces.specs.Limits.{IsPiece}
use Rattle.snapshot_pieces.specs.Trees.{line_of}
use Rattle.snapshot_pieces.specs.declared.piece.CountedPiece.{CountedPiece}
use Rattle.snapshot_pieces.specs.declared.piece.EndPiece.{EndPiece}
use Rattle.snapshot_pieces.specs.declared.piece.Piece.{Piece}
use Rattle.snapshot_pieces.specs.declared.piece.Piece.TheVariants as piece
use Rattle.snapshot_pieces.proofs.ReadLemmas.{all_push, lines_push}
use Rattle.shard_snapshot.specs.declared.damage.Damage.{Damage}
use Rattle.shard_snapshot.specs.declared.damage.Damage.TheVariants.{NoMemory}
use Rattle.shard_snapshot.specs.declared.fault.RestoreFault.TheVariants.{Memory}
use Rattle.shard_snapshot.specs.Laid.{Laid, end_laid, laid, laid_first, on_ok}
use Rattle.shard_snapshot.specs.Restored.{IsLaid, RestoringView}
use Rattle.shard_snapshot.specs.SoFar.{IsNextFault, end_in}
use Rattle.shard_snapshot.specs.Stages.{AtCounts, AtHead, IsRestored, Lays, is_head}
use Rattle.shard_snapshot.specs.Texts.{IsSnapshot}
use Rattle.shard_snapshot.specs.Written.{AreFirst, IsWritten, head_of}
use Rattle.shard_snapshot.proofs.PieceLemmas.{alike}
use Rattle.shard_snapshot.proofs.SetupLemmas.{spelled-of}
use Rattle.shard_snapshot.proofs.StageLemmas.{counts-next, end-next, head-next, led-by-more, piece-next}

-- ---- the first two

self-same : (n : ℕ) → (n == n) ≡ true
self-same n = alike n n refl

and-both : (a b : Bool) → a ≡ true → b ≡ true → (a && b) ≡ true
and-both true b p q = q
and-both false b p q = absurd (cc)

own-head : (setup : Setup) → is_head setup (head_of setup) ≡ true
own-head setup =
    and-both _ _ (self-same setup.service) (and-both _ _ (self-same setup.shard) (and-both _ _ (self-same setup.shards) (self-same setup.retention)))

pub written-first : (setup : Setup) (c : CountedPiece) (text : List ℕ) (l : Laid) (r : RestoringView) → AreFirst setup c text → laid_first setup c ≡ Ok l → IsLaid r l → IsWritten setup text 2 r
written-first setup c text l r first is h =
    let head = piece.Head (head_of setup) in
    let counted = piece.Counted c in
    record {
      pieces = head ∷ counted ∷ [];
      are_pieces = (first.head, (first.counted, tt));
      lines = first.lines ∙ ap (λ t. line_of head ++ t) (sym (append-nil (line_of counted)));
      count = refl;
      content = l;
      led = led-by-more setup 1 AtCounts (Lays l) (head ∷ []) counted refl
          (led-by-more setup 0 AtHead AtCounts [] head refl refl (head-next setup 0 (head_of setup) (own-head setup)))
          (counts-next setup 1 c ∙ ap (λ x. on_ok x (λ m. Ok (Lays m))) is);
      is = h;
    }

-- ---- one more

no-end : (l m : Laid) (p : Piece) → laid l p ≡ Ok m → end_in p ≡ None
no-end l m (piece.Head h) is = refl
no-end l m (piece.Gone k) is = refl
no-end l m (piece.Event e) is = refl
no-end l m (piece.Request id) is = refl
no-end l m (piece.Note k) is = refl
no-end l m (piece.Counted c) is = refl
no-end l m (piece.Dispatch d) is = refl
no-end l m (piece.Transfer t) is = refl
no-end l m (piece.End e) is = absurd (cc)

pub written-more : (setup : Setup) (text more : List ℕ) (n : ℕ) (r r' : RestoringView) (p : Piece) → (h : IsWritten setup text n r) → IsPiece p → more ≡ text ++ line_of p →
    (m : Laid) × (laid h.content p ≡ Ok m) × IsLaid r' m → IsWritten setup more (n + 1) r'
written-more setup text more n r r' p h good added (m, is, laid) = record {
  pieces = h.pieces ++ p ∷ [];
  are_pieces = all_push h.pieces p h.are_pieces good;
  lines = added ∙ ap (λ t. t ++ line_of p) h.lines ∙ sym (lines_push h.pieces p);
  count = (let many = length-append h.pieces (p ∷ []) in let c = h.count in omega (arith, many, c));
  content = m;
  led = led-by-more setup n (Lays h.content) (Lays m) h.pieces p h.count h.led
      (piece-next setup n h.content p (no-end h.content m p is) ∙ ap (λ x. on_ok x (λ y. Ok (Lays y))) is);
  is = laid;
}

-- ---- the end

of-own : (setup : Setup) (text : List ℕ) (store : ShardView) → IsSnapshot setup text store → IsSnapshot store.setup text store
of-own setup text store h =
    let own : store.setup ≡ setup = ap (λ (s : ShardState). s.setup) h.stands.says ∙ (spelled-of setup text h.content h.spells).setup in
    subst (λ s. IsSnapshot s text store) (sym own) h

pub written-end : (setup : Setup) (text whole : List ℕ) (n : ℕ) (r : RestoringView) (e : EndPiece) (store : ShardView) → (h : IsWritten setup text n r) → IsPiece (piece.End e) → e.lines ≡ n → whole ≡ text ++ line_of (piece.End e) →
    (S : Content) × (end_laid h.content e ≡ Ok S) × StandsFor store S → IsSnapshot store.setup whole store
written-end setup text whole n r e store h good count added (S, is, stands) = of-own setup whole store (record {
  content = S;
  spells = record {
    pieces = h.pieces ++ piece.End e ∷ [];
    are_pieces = all_push h.pieces (piece.End e) h.are_pieces good;
    lines = added ∙ ap (λ t. t ++ line_of (piece.End e)) h.lines ∙ sym (lines_push h.pieces (piece.End e));
    restores = led-by-more setup n (Lays h.content) (IsRestored S) h.pieces (piece.End e) h.count h.led
        (end-next setup n h.content e (alike e.lines n count) ∙ ap (λ x. on_ok x (λ T. Ok (IsRestored T))) is);
  };
  stands = stands;
})

-- that memory ran out says nothing of a piece
pub of-memory : {A : Type 0} (n : ℕ) (given : Result A Damage) → IsNextFault n given Memory
of-memory n given = (NoMemory, refl, λ other. absurd (other refl))
