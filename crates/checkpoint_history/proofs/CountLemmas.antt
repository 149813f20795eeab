-- what the counts of shards tell of the contents that have them
use Rattle.std.proofs.Common.{◌≡◌, ◌⊎◌, inl, inr, ⊎_elim, ℕ, zero, suc, ◌+◌, ◌<◌, List, [], ◌∷◌, length, map, refl, sym, ap, ◌∙◌, subst, arith, Some, get_or}
use Rattle.std.proofs.lemmas.Option.{get_or_from_slice_get}
use Rattle.std.specs.Prelude.{slice_get}
use Rattle.service_model_types.specs.declared.content.Content.{Content}
use Rattle.service_model_types.specs.declared.content.Outgoing.{Outgoing}
use Rattle.service_model.specs.Counts.{outgoing_to}
use Rattle.checkpoint_history.specs.CountedPairs.{CountInOrder, PlacesInOrder, count_at}
use Rattle.checkpoint_history.specs.Counts.{AreCountsOf, counts_of}
use Rattle.checkpoint_history.specs.Orders.{AreInOrder, IsInOrder}
use Rattle.checkpoint_history.specs.declared.counts.TransferCounts.{TransferCounts}

-- ---- lists

last-or : (m i : ℕ) → m < i + 1 → (m < i) ⊎ (m ≡ i)
last-or zero zero less = inr refl
last-or zero (suc i) less = inl (omega arith)
last-or (suc m) zero less = absurd (omega (arith, less))
last-or (suc m) (suc i) less = ⊎_elim (λ l. inl (omega (arith, l))) (λ e. inr (ap suc e)) (last-or m i (omega (arith, less)))

pub one-more : (P : ℕ → Type 0) (i : ℕ) → ((m : ℕ) → m < i → P m) → P i → (m : ℕ) → m < i + 1 → P m
one-more P i h at m less = ⊎_elim (λ l. h m l) (λ e. subst P (sym e) at) (last-or m i less)

there : {A : Type 0} (xs : List A) (k : ℕ) → k < length xs → (x : A) × (slice_get xs k ≡ Some x)
there [] k less = absurd (omega (arith, less))
there (x ∷ xs) zero less = (x, refl)
there (x ∷ xs) (suc k) less = there xs k (omega (arith, less))

-- ---- the counts of one shard

acknowledged-at : (all : List Outgoing) (to : ℕ) → count_at (map (λ (o : Outgoing). o.acknowledged) all) to ≡ (outgoing_to all to).acknowledged
acknowledged-at [] to = refl
acknowledged-at (o ∷ all) zero = refl
acknowledged-at (o ∷ all) (suc to) = acknowledged-at all to

issued-at : (all : List Outgoing) (to : ℕ) → count_at (map (λ (o : Outgoing). length o.issued) all) to ≡ length (outgoing_to all to).issued
issued-at [] to = refl
issued-at (o ∷ all) zero = refl
issued-at (o ∷ all) (suc to) = issued-at all to

-- ---- two shards

module _ (S : ℕ → Content) (from to : ℕ) where
  told : CountInOrder (counts_of (S from)) from (counts_of (S to)) to → IsInOrder S from to
  told h =
      let a = acknowledged-at (S from).outgoing to in let i = issued-at (S from).outgoing to in
      let few = h.0 in let there = h.1 in (omega (arith, a, few), omega (arith, i, there))

  counted : IsInOrder S from to → CountInOrder (counts_of (S from)) from (counts_of (S to)) to
  counted h =
      let a = acknowledged-at (S from).outgoing to in let i = issued-at (S from).outgoing to in
      let few = h.0 in let there = h.1 in (omega (arith, a, few), omega (arith, i, there))

  abbrev Of : TransferCounts × TransferCounts → Type 0
  Of z = CountInOrder z.0 from z.1 to

  pub order-told : (a b : TransferCounts) → a ≡ counts_of (S from) → b ≡ counts_of (S to) → CountInOrder a from b to → IsInOrder S from to
  order-told a b e f h = told (subst Of (λ i. (e i, f i)) h)

  pub order-counted : (a b : TransferCounts) → a ≡ counts_of (S from) → b ≡ counts_of (S to) → IsInOrder S from to → CountInOrder a from b to
  order-counted a b e f h = subst Of (λ i. (sym e i, sym f i)) (counted h)

-- ---- all shards

-- those that stand at two places are in order
pub placed : (shards : List TransferCounts) (from to : ℕ) (a b : TransferCounts) → a ≡ get_or shards from a → b ≡ get_or shards to b → CountInOrder a from b to → PlacesInOrder shards from to
placed shards from to a b is_a is_b h c d at_c at_d =
    let first : a ≡ c = is_a ∙ get_or_from_slice_get shards from c a at_c in
    let second : b ≡ d = is_b ∙ get_or_from_slice_get shards to d b at_d in
    subst (λ (z : TransferCounts × TransferCounts). CountInOrder z.0 from z.1 to) (λ i. (first i, second i)) h

pub all-told : (shards : List TransferCounts) → ((from to : ℕ) → from < length shards → to < length shards → PlacesInOrder shards from to) → (S : ℕ → Content) → AreCountsOf shards S → AreInOrder (length shards) S
all-told shards h S are from to less less' =
    let (a, at_a) = there shards from less in let (b, at_b) = there shards to less' in
    order-told S from to a b (are from a at_a) (are to b at_b) (h from to less less' a b at_a at_b)

pub all-counted : (shards : List TransferCounts) (from to : ℕ) (a b : TransferCounts) → a ≡ get_or shards from a → b ≡ get_or shards to b → from < length shards → to < length shards → (S : ℕ → Content) → AreCountsOf shards S → AreInOrder (length shards) S → CountInOrder a from b to
all-counted shards from to a b is_a is_b less less' S are ordered =
    let (c, at_c) = there shards from less in let (d, at_d) = there shards to less' in
    let first : a ≡ c = is_a ∙ get_or_from_slice_get shards from c a at_c in
    let second : b ≡ d = is_b ∙ get_or_from_slice_get shards to d b at_d in
    order-counted S from to a b (first ∙ are from c at_c) (second ∙ are to d at_d) (ordered from to less less')
