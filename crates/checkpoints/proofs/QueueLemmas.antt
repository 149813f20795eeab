-- lists of which each element passes a test, or one doesn't
use Rattle.std.proofs.Common.{◌≡◌, ◌≢◌, ℕ, zero, suc, ◌+◌, ◌<◌, Bool, true, false, List, [], ◌∷◌, length, slice_index_or, refl, ap, ◌∙◌, arith, map, sym, ◌⊎◌, inl, inr, Some}
use Rattle.std.specs.Prelude.{◌&&◌, ◌||◌, not, slice_get, unwrap_or}
use Rattle.std.specs.List.{list_all}
use Rattle.std.proofs.lemmas.Bool.{cases_eq}
use Rattle.service_model_types.specs.Routing.{knows_queue}
use Rattle.service_model_types.specs.declared.content.Setup.{Setup}
use Rattle.service_model.specs.RunState.{ActivityRow, no_run, queue_of}
use Rattle.shard_store.proofs.PlaceLemmas.{none-open}
use Rattle.checkpoints.specs.Queues.{knows_by, knows_run}

pub and-true : (a b : Bool) → a ≡ true → b ≡ true → (a && b) ≡ true
and-true a b one other = ap (λ x. x && b) one ∙ other

and-false : (a b : Bool) → b ≡ false → (a && b) ≡ false
and-false true b fails = fails
and-false false b fails = refl

module _ {A : Type 0} (test : A → Bool) where
  pub all-pass : (xs : List A) (d : A) → ((k : ℕ) → k < length xs → test (slice_index_or xs k d) ≡ true) → list_all test xs ≡ true
  all-pass [] d each = refl
  all-pass (x ∷ xs) d each = and-true (test x) (list_all test xs) (each 0 (omega arith)) (all-pass xs d (λ k low. each (suc k) (omega (arith, low))))

  pub one-fails : (xs : List A) (k : ℕ) (d : A) → k < length xs → test (slice_index_or xs k d) ≡ false → list_all test xs ≡ false
  one-fails [] k d low fails = absurd (omega (arith, low))
  one-fails (x ∷ xs) zero d low fails = ap (λ b. b && list_all test xs) fails
  one-fails (x ∷ xs) (suc k) d low fails = and-false (test x) (list_all test xs) (one-fails xs k d (omega (arith, low)) fails)

  pub all-got-pass : (xs : List A) → ((k : ℕ) (x : A) → slice_get xs k ≡ Some x → test x ≡ true) → list_all test xs ≡ true
  all-got-pass [] each = refl
  all-got-pass (x ∷ xs) each = and-true (test x) (list_all test xs) (each 0 x refl) (all-got-pass xs (λ k y got. each (suc k) y got))

  pub got-fails : (xs : List A) (k : ℕ) (x : A) → slice_get xs k ≡ Some x → test x ≡ false → list_all test xs ≡ false
  got-fails [] k x got fails = absurd (nothing k x got)
    where
      nothing : (k : ℕ) (x : A) → slice_get [] k ≡ Some x → ⊥
      nothing zero x got = cc
      nothing (suc k) x got = cc
  got-fails (y ∷ xs) zero x got fails = ap (λ b. b && list_all test xs) (ap (λ o. test (unwrap_or o y)) got ∙ fails)
  got-fails (y ∷ xs) (suc k) x got fails = and-false (test y) (list_all test xs) (got-fails xs k x got fails)

  -- so do those before this place and the one at it
  pub next-passes : (xs : List A) (n k : ℕ) (x y : A) → ((j : ℕ) (z : A) → j < n → slice_get xs j ≡ Some z → test z ≡ true) → slice_get xs n ≡ Some x → test x ≡ true → k < n + 1 → slice_get xs k ≡ Some y → test y ≡ true
  next-passes xs n k x y before here passes low got = by (cases_eq k n)
    where
      by : (k ≡ n) ⊎ (k ≢ n) → test y ≡ true
      by (inl same) = ap (λ o. test (unwrap_or o y)) (sym got ∙ ap (slice_get xs) same ∙ here) ∙ passes
      by (inr other) = before k y (omega (arith, low, other)) got

pub all-mapped : {A B : Type 0} (test : B → Bool) (f : A → B) (xs : List A) → list_all test (map f xs) ≡ list_all (λ a. test (f a)) xs
all-mapped test f [] = refl
all-mapped test f (x ∷ xs) = ap (λ b. test (f x) && b) (all-mapped test f xs)

-- no run names no queue
pub none-named : (setup : Setup) → knows_run setup no_run ≡ true
none-named setup = ap (λ b. not b || (knows_queue setup (queue_of no_run) && list_all (λ (r : ActivityRow). knows_by setup r.opened.attributes) no_run.activities)) none-open
