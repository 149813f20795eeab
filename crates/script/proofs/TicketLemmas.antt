-- the steps of the only pass, in the order of their tickets
use Rattle.std.proofs.Common.{◌≡◌, ◌≢◌, ℕ, ◌<◌, List, [], ◌∷◌, ◌++◌, Some, refl, sym, ap, ◌∙◌, arith, length, length-append, append-nil, map}
use Rattle.std.specs.Prelude.{slice_get}
use Rattle.step_record.specs.declared.entry.Entry.{Entry}
use Rattle.gate.specs.declared.view.View.{View}
use Rattle.gate.specs.AtClose.{IsHistory}
use Rattle.gate.specs.Merges.{beside}
use Rattle.gate.specs.Passes.{IsSame, mine, tickets, width}
use Rattle.gate.specs.Records.{Begins, on, tickets_from}
use Rattle.history.proofs.StepLemmas.{map-push}
use Rattle.script.specs.Sorted.{sorted, stamped_seen, steps_seen}
use Rattle.script.proofs.SortLemmas.{below-beside, beside-push, sorted-none, sorted-push, sorted-run, sorted-same}
use Rattle.gate.proofs.Merges.{numbered_whole as numbered-whole}

nothing : {A : Type 0} (rest : List A) → length rest ≡ 0 → rest ≡ []
nothing [] h = refl
nothing (r ∷ rest) h = absurd (omega (arith, h))

-- a list that goes on from one that is as long is that one
pub as-long : {A : Type 0} (xs ys : List A) → Begins xs ys → length ys ≡ length xs → ys ≡ xs
as-long xs ys (rest, is) same = is ∙ ap (λ t. xs ++ t) (nothing rest (omega (arith, ap length is, length-append xs rest, same))) ∙ append-nil xs

-- the ticket of a step stands after those that were seen, where no other pass drew one there
pub ticket-behind : {A : Type 0} (ts front ts' : List ℕ) (t : ℕ) (es es' : List A) (e : A) → Begins ts front → ts' ≡ front ++ t ∷ [] → length ts ≡ length es → es' ≡ es ++ e ∷ [] → length ts' ≡ length es' → ts' ≡ ts ++ t ∷ []
ticket-behind ts front ts' t es es' e begins last same adds pairs =
    let long : length front ≡ length ts = omega (arith, ap length last, length-append front (t ∷ []), ap length adds, length-append es (e ∷ []), same, pairs) in
    last ∙ ap (λ f. f ++ t ∷ []) (as-long ts front begins long)

module _ {Q C : Type 0} where
  -- one step more
  pub steps-more : (v w : View Q C) (s t : ℕ) (e : Entry Q) → IsSame v w → s < width v → length (tickets v s) ≡ length (mine v s) → mine w s ≡ mine v s ++ e ∷ [] → tickets w s ≡ tickets v s ++ t ∷ []
      → ((k : ℕ) → k ≢ s → mine w k ≡ mine v k) → ((k : ℕ) → k ≢ s → tickets w k ≡ tickets v k) → ((k i u : ℕ) → k < width v → slice_get (tickets v k) i ≡ Some u → u < t)
      → steps_seen w ≡ steps_seen v ++ (s, e) ∷ []
  unfolding steps_seen
  steps-more v w s t e same there pairs entry ticket entries stamps above =
      let here : stamped_seen w s ≡ stamped_seen v s ++ (t, e) ∷ [] =
      ap (λ ts. beside ts (mine w s)) ticket ∙ ap (beside (tickets v s ++ t ∷ [])) entry ∙ beside-push (tickets v s) (mine v s) t e pairs in
      let others : (k : ℕ) → k ≢ s → stamped_seen w k ≡ stamped_seen v k = λ k ne. ap (λ ts. beside ts (mine w k)) (stamps k ne) ∙ ap (beside (tickets v k)) (entries k ne) in
      let ends = λ (xs : List (ℕ × (ℕ × Entry Q))). map (λ (x : ℕ × (ℕ × Entry Q)). x.1) xs in
      ap (λ n. ends (sorted (stamped_seen w) 0 n)) (ap (λ o. length o.bases) same.1)
      ∙ ap ends (sorted-push (stamped_seen v) (stamped_seen w) (t, e) s 0 (width v) (omega arith) (omega (arith, there)) here others
      (λ k l. below-beside t k (tickets v k) (mine v k) (λ i u is. above k i u (omega (arith, l)) is)))
      ∙ map-push (λ (x : ℕ × (ℕ × Entry Q)). x.1) (sorted (stamped_seen v) 0 (width v)) (t, (s, e))

  -- where nothing was seen or done they are as they were
  pub steps-same : (v w : View Q C) → IsSame v w → ((k : ℕ) → mine w k ≡ mine v k) → ((k : ℕ) → tickets w k ≡ tickets v k) → steps_seen w ≡ steps_seen v
  unfolding steps_seen
  steps-same v w same entries stamps =
      let ends = λ (xs : List (ℕ × (ℕ × Entry Q))). map (λ (x : ℕ × (ℕ × Entry Q)). x.1) xs in
      ap (λ n. ends (sorted (stamped_seen w) 0 n)) (ap (λ o. length o.bases) same.1)
      ∙ ap ends (sorted-same (stamped_seen v) (stamped_seen w) 0 (width v) (λ k low l. ap (λ ts. beside ts (mine w k)) (stamps k) ∙ ap (beside (tickets v k)) (entries k)))

  pub steps-none : (v : View Q C) → ((k : ℕ) → tickets v k ≡ []) → steps_seen v ≡ []
  unfolding steps_seen
  steps-none v none = ap (λ (xs : List (ℕ × (ℕ × Entry Q))). map (λ (x : ℕ × (ℕ × Entry Q)). x.1) xs) (sorted-none (stamped_seen v) 0 (width v) (λ k. ap (λ ts. beside ts (mine v k)) (none k)))

  -- at the close they are the history, where this has no step but the pass's
  pub steps-closed : (G : (ℕ → List (Entry Q)) → ℕ → Q → Type 0) (bases logs : ℕ → List (Entry Q)) (stamps : ℕ → List ℕ) (n : ℕ) (v : View Q C) (h : IsHistory G bases n logs stamps) → width v ≡ n
      → ((k : ℕ) → k < n → on k h.run ≡ mine v k) → ((k : ℕ) → k < n → tickets_from 1 k h.run ≡ tickets v k) → steps_seen v ≡ h.run
  unfolding steps_seen
  steps-closed G bases logs stamps n v h wide entries tickets_are =
      let ends = λ (xs : List (ℕ × (ℕ × Entry Q))). map (λ (x : ℕ × (ℕ × Entry Q)). x.1) xs in
      ap (λ m. ends (sorted (stamped_seen v) 0 m)) wide
      ∙ ap ends (sorted-same (λ k. beside (tickets_from 1 k h.run) (on k h.run)) (stamped_seen v) 0 n (λ k low l. ap (λ ts. beside ts (mine v k)) (sym (tickets_are k (omega (arith, l)))) ∙ ap (beside (tickets_from 1 k h.run)) (sym (entries k (omega (arith, l))))))
      ∙ ap ends (sorted-run n h.run h.steps)
      ∙ numbered-whole 1 h.run
