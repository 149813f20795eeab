-- shards whose records are handed out are those that were restored
use Rattle.std.proofs.Common.{◌≡◌, ℕ, zero, suc, List, [], ◌∷◌, ◌++◌, length, map, refl, sym, ap, ap₂, ◌∙◌, subst, Some}
use Rattle.std.specs.Prelude.{slice_get, unwrap_or}
use Rattle.service_model_types.specs.declared.content.Content.{Content}
use Rattle.service_model_types.specs.declared.settings.Settings.{Settings}
use Rattle.service.specs.Contents.{setup_of}
use Rattle.shard_snapshot.specs.Stages.{Spells}
use Rattle.checkpoints.specs.Restored.{AreRestored, text_of}
use Rattle.checkpoints.specs.declared.restored.Restored.{Restored}

-- the shards in these are those with the same texts
pub AreSame : {S W : Type 0} → (W → S) → List (Restored S) → List (Restored W) → Type 0
AreSame inner [] [] = Unit {0}
AreSame inner [] (h ∷ hs) = ⊥
AreSame inner (r ∷ rs) [] = ⊥
AreSame inner (r ∷ rs) (h ∷ hs) = (inner h.shard ≡ r.shard) × (text_of h ≡ text_of r) × (h.counts ≡ r.counts) × AreSame inner rs hs

pub none-yet : {S W : Type 0} (inner : W → S) (hs : List (Restored W)) → hs ≡ [] → AreSame inner [] hs
unfolding AreSame
none-yet inner [] is = tt
none-yet inner (h ∷ hs) is = absurd (cc)

pub one-more : {S W : Type 0} (inner : W → S) (rs : List (Restored S)) (hs : List (Restored W)) (r : Restored S) (h : Restored W) → AreSame inner rs hs → inner h.shard ≡ r.shard → text_of h ≡ text_of r → h.counts ≡ r.counts
    → AreSame inner (rs ++ r ∷ []) (hs ++ h ∷ [])
unfolding AreSame
one-more inner [] [] r h same shard text counts = (shard, text, counts, tt)
one-more inner [] (x ∷ hs) r h same shard text counts = absurd same
one-more inner (x ∷ rs) [] r h same shard text counts = absurd same
one-more inner (x ∷ rs) (y ∷ hs) r h (s, t, n, more) shard text counts = (s, t, n, one-more inner rs hs r h more shard text counts)

pub same-texts : {S W : Type 0} (inner : W → S) (rs : List (Restored S)) (hs : List (Restored W)) → AreSame inner rs hs → map text_of hs ≡ map text_of rs
unfolding AreSame
same-texts inner [] [] same = refl
same-texts inner [] (h ∷ hs) same = absurd same
same-texts inner (r ∷ rs) [] same = absurd same
same-texts inner (r ∷ rs) (h ∷ hs) (s, t, n, more) = ap₂ (λ x xs. x ∷ xs) t (same-texts inner rs hs more)

same-count : {S W : Type 0} (inner : W → S) (rs : List (Restored S)) (hs : List (Restored W)) → AreSame inner rs hs → length hs ≡ length rs
unfolding AreSame
same-count inner [] [] same = refl
same-count inner [] (h ∷ hs) same = absurd same
same-count inner (r ∷ rs) [] same = absurd same
same-count inner (r ∷ rs) (h ∷ hs) (s, t, n, more) = ap suc (same-count inner rs hs more)

some-one : {A : Type 0} (x y : A) → Some x ≡ Some y → x ≡ y
some-one x y e = ap (λ o. unwrap_or o x) e

-- each at its place
same-at : {S W : Type 0} (inner : W → S) (rs : List (Restored S)) (hs : List (Restored W)) → AreSame inner rs hs → (k : ℕ) (h : Restored W) → slice_get hs k ≡ Some h
    → (r : Restored S) × (slice_get rs k ≡ Some r) × (inner h.shard ≡ r.shard) × (text_of h ≡ text_of r) × (h.counts ≡ r.counts)
unfolding AreSame
same-at inner [] [] same k h is = absurd (cc)
same-at inner [] (x ∷ hs) same k h is = absurd same
same-at inner (r ∷ rs) [] same k h is = absurd same
same-at inner (r ∷ rs) (x ∷ hs) (s, t, n, more) zero h is = let e = some-one x h is in (r, refl, ap (λ y. inner y.shard) (sym e) ∙ s, ap text_of (sym e) ∙ t, ap (λ y. y.counts) (sym e) ∙ n)
same-at inner (r ∷ rs) (x ∷ hs) (s, t, n, more) (suc k) h is = same-at inner rs hs more k h is

pub same-restored : {S W : Type 0} (inner : W → S) (stands : S → Content → Type 0) (K : Settings) (rs : List (Restored S)) (hs : List (Restored W)) → AreSame inner rs hs → AreRestored stands K rs → AreRestored (λ x. stands (inner x)) K hs
same-restored inner stands K rs hs same h = record {
  count = same-count inner rs hs same ∙ h.count;
  each = λ k x at.
      let (r, at_r, shard, text, counts) = same-at inner rs hs same k x at in
      let restored = h.each k r at_r in
      let keeps = restored.keeps in
      record {
        keeps = record {
          content = keeps.content;
          spells = subst (λ t. Spells (setup_of K k) t keeps.content) (sym text) keeps.spells;
          stands_for = subst (λ s. stands s keeps.content) (sym shard) keeps.stands_for;
        };
        counted = λ C stand. counts ∙ restored.counted C (subst (λ s. stands s C) shard stand);
      };
}
