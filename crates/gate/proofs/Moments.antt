-- Where a pass has seen as many steps as there are, it has seen one moment of all slots.
use Rattle.std.proofs.Common.{◌≡◌, inl, inr, ℕ, zero, suc, ◌+◌, ◌<◌, ◌≤◌, List, [], ◌∷◌, ◌++◌, length, refl, sym, ap, ◌∙◌, arith, append-nil, length-append}
use Rattle.std.proofs.lemmas.Bool.{cases_eq}
use Rattle.gate.specs.declared.view.View.{View}
use Rattle.gate.specs.Records.{Begins, Run, InSlots, on, past, grown, tickets_from}
use Rattle.gate.specs.SlotRule.{at, base}
use Rattle.gate.specs.Moments.{IsMoment, IsPaired, Surveyed, steps_seen, total}
use Rattle.gate.proofs.Growth.{past_append}
use Rattle.gate.proofs.Runs.{on_cons, on_skip, length-tickets}
use Rattle.step_record.specs.declared.entry.Entry.{Entry}

none-left : {A : Type 0} (l : List A) → length l ≡ 0 → l ≡ []
none-left [] z = refl
none-left (x ∷ l) z = absurd (omega (arith, z))

begins-same : {A : Type 0} (xs ys : List A) → Begins xs ys → length xs ≡ length ys → xs ≡ ys
begins-same {A} xs ys (rest, is) e =
    let none : rest ≡ [] = none-left rest (omega (arith, ap length is, length-append xs rest, e)) in
    sym (is ∙ ap (λ (l : List A). xs ++ l) none ∙ append-nil xs)

-- sums that are equal, of numbers that are at most others
total-less : (f g : ℕ → ℕ) (n : ℕ) → ((k : ℕ) → k < n → f k ≤ g k) → total f n ≤ total g n
total-less f g zero le = omega arith
total-less f g (suc n) le = let here = le n (omega arith) in let rest = total-less f g n (λ k lt. le k (omega arith)) in omega arith

total-same : (f g : ℕ → ℕ) (n : ℕ) → ((k : ℕ) → k < n → f k ≤ g k) → total f n ≡ total g n → (k : ℕ) → k < n → f k ≡ g k
total-same f g zero le e k lt = absurd (omega (arith, lt))
total-same f g (suc n) le e k lt =
    let here = le n (omega arith) in
    let rest = total-less f g n (λ j l. le j (omega arith)) in
    elim (cases_eq k n) [
      | inl is ↦ ap f is ∙ (let s : f n ≡ g n = omega (arith, e) in s) ∙ ap g (sym is)
      | inr other ↦ total-same f g n (λ j l. le j (omega arith)) (omega (arith, e)) k (omega (arith, lt, other))
    ]

total-none : (f : ℕ → ℕ) (n : ℕ) → ((k : ℕ) → f k ≡ 0) → total f n ≡ 0
total-none f zero z = refl
total-none f (suc n) z = let rest = total-none f n z in omega (arith, rest, z n)

module _ {Q : Type 0} where
  abbrev count : Run Q → ℕ → ℕ
  count run k = length (on k run)

  count-else : (n : ℕ) (x : ℕ × Entry Q) (xs : Run Q) → n ≤ x.0 → total (count (x ∷ xs)) n ≡ total (count xs) n
  count-else zero x xs le = refl
  count-else (suc n) x xs le =
      let rest = count-else n x xs (omega (arith, le)) in
      let here : count (x ∷ xs) n ≡ count xs n = ap length (on_skip n x xs (λ e. absurd (omega (arith, e, le)))) in
      omega (arith, rest, here)

  count-more : (n : ℕ) (x : ℕ × Entry Q) (xs : Run Q) → x.0 < n → total (count (x ∷ xs)) n ≡ total (count xs) n + 1
  count-more zero x xs lt = absurd (omega (arith, lt))
  count-more (suc n) x xs lt = elim (cases_eq n x.0) [
    | inl is ↦
        let rest = count-else n x xs (omega (arith, is)) in
        let here : count (x ∷ xs) n ≡ suc (count xs n) = ap length (on_cons n x xs is) in
        omega (arith, rest, here)
    | inr other ↦
        let rest = count-more n x xs (omega (arith, lt, other)) in
        let here : count (x ∷ xs) n ≡ count xs n = ap length (on_skip n x xs other) in
        omega (arith, rest, here)
  ]

  counted : (n : ℕ) (xs : Run Q) → InSlots n xs → total (count xs) n ≡ length xs
  counted n [] h = total-none (count []) n (λ k. refl)
  counted n (x ∷ xs) h = let rest = counted n xs h.1 in let more = count-more n x xs h.0 in omega (arith, rest, more)

module _ {Q C : Type 0} (grounds : List C → ℕ → Q → Type 0) (after : C → Q → C) where
  pub moment-of : (v : View Q C) (steps : ℕ) → Surveyed grounds after v.origin v steps → IsPaired v → steps_seen v ≡ steps → IsMoment grounds after v
  moment-of v steps told paired all =
      let width = length v.origin.bases in
      let each : (k : ℕ) → k < width → length (at v.tickets k) ≡ length (on k told.run) =
      total-same (λ k. length (at v.tickets k)) (count told.run) width
      (λ k lt. let t = told.tickets k lt in omega (arith, ap length t.1, length-append (at v.tickets k) t.0, length-tickets 1 k told.run))
      (all ∙ sym told.counts ∙ sym (counted width told.run told.steps)) in
      record {
        run = told.run;
        steps = told.steps;
        grounded = told.grounded;
        records = λ k lt.
            let p = paired k lt in
            let behind : past (base v.origin k) (at v.seen k) ≡ p.0.0 = ap (past (base v.origin k)) p.0.1 ∙ past_append (base v.origin k) p.0.0 in
            begins-same (at v.seen k) (grown (base v.origin) told.run k) (told.seen k lt)
            (omega (arith, ap length p.0.1, length-append (base v.origin k) p.0.0, ap length behind, p.1, each k lt, length-append (base v.origin k) (on k told.run)));
        numbers = λ k lt. begins-same (at v.tickets k) (tickets_from 1 k told.run) (told.tickets k lt) (each k lt ∙ sym (length-tickets 1 k told.run));
      }
