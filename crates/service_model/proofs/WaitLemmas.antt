-- waits: one that is followed by itself stays, and by whole factors nothing is rounded
use Rattle.std.proofs.Common.{◌≡◌, ℕ, zero, suc, ◌-◌, ◌*◌, ◌^◌, ◌<◌, ◌≤◌, ◌⊎◌, inl, inr, min, refl, sym, ap, ◌∙◌, arith}
use Rattle.std.specs.Fn.{iterate}
use Rattle.std.specs.Int.{div_ceil}
use Rattle.std.proofs.Math.Nat.{pow-zero, pow-succ', mul-one, mul_assoc, mul_left_comm, le-mul_of_pos_right, min-eq_left, min-eq_right}
use Rattle.std.proofs.lemmas.Bool.{cases_lt}
use Rattle.std.proofs.lemmas.Grind.{div_ceil_times}
use Rattle.wf_event.specs.declared.payloads.PolicyFields.{PolicyFields}
use Rattle.service_model.specs.Retry.{maximum_of, next_wait, wait}
use Rattle.service_model.specs.RetryLaws.{GrowsByWholeFactors}

-- what is followed by itself stays
pub stays : (h : ℕ → ℕ) (n w : ℕ) → h w ≡ w → iterate h n w ≡ w
stays h zero w same = refl
stays h (suc n) w same = ap (iterate h n) same ∙ stays h n w same

-- a whole factor leaves nothing to round
whole : (w f : ℕ) → div_ceil (w * (100 * f)) 100 ≡ w * f
whole w f =
    let turned : w * (100 * f) ≡ 100 * (w * f) = mul_left_comm w 100 f in
    let bounds = div_ceil_times (w * (100 * f)) 100 (omega arith) in
    omega (arith, turned, bounds.0, bounds.1)

-- cutting off at the maximum before a product or after it is the same
min-product : (m a f : ℕ) → 1 ≤ f → min m (min m a * f) ≡ min m (a * f)
min-product m a f least = by_side (cases_lt m a)
  where
    by_side : (m < a) ⊎ (a ≤ m) → min m (min m a * f) ≡ min m (a * f)
    by_side (inl over) =
        let under : m ≤ a = omega arith in
        let grows : m ≤ m * f = le-mul_of_pos_right m least in
        let above : a ≤ a * f = le-mul_of_pos_right a least in
        rw (min-eq_left under) (omega arith)
    by_side (inr under) = rw (min-eq_right under) refl

-- one more wait, by a whole factor
next-whole : (p : PolicyFields) (f a : ℕ) → p.coefficient ≡ 100 * f → 1 ≤ f → next_wait p (min (maximum_of p) a) ≡ min (maximum_of p) (a * f)
next-whole p f a is least =
    ap (λ c. min (maximum_of p) (div_ceil (min (maximum_of p) a * c) 100)) is
    ∙ ap (min (maximum_of p)) (whole (min (maximum_of p) a) f)
    ∙ min-product (maximum_of p) a f least

-- all waits by a whole factor
grown : (p : PolicyFields) (f n a : ℕ) → p.coefficient ≡ 100 * f → 1 ≤ f → iterate (next_wait p) n (min (maximum_of p) a) ≡ min (maximum_of p) (a * f ^ n)
grown p f zero a is least = ap (min (maximum_of p)) (sym (ap (λ e. a * e) (pow-zero f) ∙ mul-one a))
grown p f (suc n) a is least =
    ap (iterate (next_wait p) n) (next-whole p f a is least) ∙ grown p f n (a * f) is least ∙ ap (min (maximum_of p)) more
  where
    more : a * f * f ^ n ≡ a * f ^ suc n
    more = mul_assoc a f (f ^ n) ∙ ap (λ e. a * e) (sym (pow-succ' f n))

pub grows-by-whole-factors : GrowsByWholeFactors
unfolding wait
grows-by-whole-factors p f k is least = grown p f (k - 1) p.initial is least
