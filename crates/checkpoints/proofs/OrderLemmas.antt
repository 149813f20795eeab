-- whether the contents of shards are in order is told by what the shards count
use Rattle.std.proofs.Common.{◌≡◌, ℕ, zero, suc, ◌↔◌, ◌∙◌, IsTrue, Bool, List, [], ◌∷◌, length, map, ap, sym, subst, Some}
use Rattle.std.proofs.lemmas.List.{length-map}
use Rattle.std.specs.Prelude.{slice_get, unwrap_or}
use Rattle.gate.specs.Records.{Each}
use Rattle.service_model.proofs.ListLemmas.{get-map}
use Rattle.service_model_types.specs.declared.content.Content.{Content}
use Rattle.service_model_types.specs.declared.settings.Settings.{Settings}
use Rattle.service.specs.Contents.{setup_of}
use Rattle.checkpoint_history.specs.Counts.{TellsOrder}
use Rattle.checkpoint_history.specs.Orders.{AreInOrder}
use Rattle.checkpoints.specs.Checkpoints.{AreCounted, Spell}
use Rattle.checkpoints.specs.Restored.{AreRestored, text_of}
use Rattle.checkpoints.specs.declared.restored.Restored.{Restored}
use Rattle.checkpoints.proofs.StartLemmas.{AreFound}

some-alike : {A : Type 0} {x y : A} → Some x ≡ Some y → x ≡ y
some-alike {x = x} e = ap (λ o. unwrap_or o x) e

mapped-at : {A B : Type 0} (f : A → B) (xs : List A) (k : ℕ) (x : A) → slice_get xs k ≡ Some x → slice_get (map f xs) k ≡ Some (f x)
mapped-at f [] k x is = absurd (cc)
mapped-at f (y ∷ xs) zero x is = ap (λ z. Some (f z)) (some-alike is)
mapped-at f (y ∷ xs) (suc k) x is = mapped-at f xs k x is

-- the contents for which they stand
pub told-of : {S : Type 0} (stands : S → Content → Type 0) (shards : List (Restored S)) (told : Bool)
    → Each shards (λ k r. AreCounted stands r.shard r.counts) → TellsOrder (map (λ (r : Restored S). r.counts) shards) told
    → (start : ℕ → Content) → Each shards (λ k r. stands r.shard (start k)) → IsTrue told ↔ AreInOrder (length shards) start
told-of {S} stands shards told counted tells start standing =
    subst (λ n. IsTrue told ↔ AreInOrder n start) (length-map shards (λ (r : Restored S). r.counts))
    (tells start (λ k counts at. let found = get-map (λ (r : Restored S). r.counts) shards k counts at in found.2 ∙ counted k found.0 found.1 (start k) (standing k found.0 found.1)))

-- the shards stand for the contents that their texts spell
spelled-stand : {S : Type 0} → AreFound → (stands : S → Content → Type 0) (K : Settings) (shards : List (Restored S)) (content : ℕ → Content)
    → AreRestored stands K shards → Spell K (map text_of shards) content → Each shards (λ k r. stands r.shard (content k))
spelled-stand found stands K shards content h spell k r at =
    let keeps = (h.each k r at).keeps in
    let spells = spell.each k (text_of r) (mapped-at text_of shards k r at) in
    subst (stands r.shard) (some-alike (sym (found (setup_of K k) (text_of r) keeps.content keeps.spells) ∙ found (setup_of K k) (text_of r) (content k) spells)) keeps.stands_for

-- so it is told of these too
pub told-of-texts : {S : Type 0} → AreFound → (stands : S → Content → Type 0) (shards : List (Restored S)) (told : Bool)
    → ((start : ℕ → Content) → Each shards (λ k r. stands r.shard (start k)) → IsTrue told ↔ AreInOrder (length shards) start)
    → (K : Settings) (content : ℕ → Content) → AreRestored stands K shards → Spell K (map text_of shards) content → IsTrue told ↔ AreInOrder K.shards content
told-of-texts found stands shards told tells K content h spell =
    subst (λ n. IsTrue told ↔ AreInOrder n content) h.count (tells content (spelled-stand found stands K shards content h spell))
