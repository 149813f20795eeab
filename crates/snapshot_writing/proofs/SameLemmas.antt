-- lists that are the same at each place
use Rattle.std.proofs.Common.{◌≡◌, ◌⊎◌, inl, inr, ⊎_elim, ℕ, zero, suc, ◌+◌, ◌<◌, List, [], ◌∷◌, length, refl, ap, ap₂, subst, sym, arith, Some, None}
use Rattle.std.specs.Prelude.{slice_get, unwrap_or}

some-same : {A : Type 0} (x y : A) → Some x ≡ Some y → x ≡ y
some-same x y e = ap (λ o. unwrap_or o x) e

-- ---- one place more

last-or : (m i : ℕ) → m < i + 1 → (m < i) ⊎ (m ≡ i)
last-or zero zero less = inr refl
last-or zero (suc i) less = inl (omega arith)
last-or (suc m) zero less = absurd (omega (arith, less))
last-or (suc m) (suc i) less = ⊎_elim (λ l. inl (omega (arith, l))) (λ e. inr (ap suc e)) (last-or m i (omega (arith, less)))

pub one-more : (P : ℕ → Type 0) (i : ℕ) → ((m : ℕ) → m < i → P m) → P i → (m : ℕ) → m < i + 1 → P m
one-more P i h at m less = ⊎_elim (λ l. h m l) (λ e. subst P (sym e) at) (last-or m i less)

-- ---- both end there

pub both-end : {A : Type 0} (xs ys : List A) (i : ℕ) → ((m : ℕ) → m < i → slice_get xs m ≡ slice_get ys m) → slice_get xs i ≡ None → slice_get ys i ≡ None → xs ≡ ys
both-end [] [] i h a b = refl
both-end [] (y ∷ ys) zero h a b = absurd (cc)
both-end [] (y ∷ ys) (suc i) h a b = absurd (let clash = h 0 (omega arith) in cc)
both-end (x ∷ xs) [] zero h a b = absurd (cc)
both-end (x ∷ xs) [] (suc i) h a b = absurd (let clash = h 0 (omega arith) in cc)
both-end (x ∷ xs) (y ∷ ys) zero h a b = absurd (cc)
both-end (x ∷ xs) (y ∷ ys) (suc i) h a b = ap₂ (λ z zs. z ∷ zs) (some-same x y (h 0 (omega arith))) (both-end xs ys i (λ m less. h (suc m) (omega (arith, less))) a b)

-- as long, and the same wherever both have one
pub as-long : {A : Type 0} (xs ys : List A) → length xs ≡ length ys → ((m : ℕ) → m < length xs → slice_get xs m ≡ slice_get ys m) → xs ≡ ys
as-long [] [] count h = refl
as-long [] (y ∷ ys) count h = absurd (cc)
as-long (x ∷ xs) [] count h = absurd (cc)
as-long (x ∷ xs) (y ∷ ys) count h =
    ap₂ (λ z zs. z ∷ zs) (some-same x y (h 0 (omega arith))) (as-long xs ys (let c = count in omega (arith, c)) (λ m less. h (suc m) (omega (arith, less))))
