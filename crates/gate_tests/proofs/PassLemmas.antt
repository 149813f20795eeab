-- passes that lie in the order of their numbers
use Rattle.std.proofs.Common.{◌≡◌, ◌∙◌, ℕ, ◌<◌, List, [], ◌∷◌, ◌++◌, Some, arith, zero, suc, refl, subst, length}
use Rattle.std.specs.Prelude.{get_or, slice_get}
use Rattle.std.proofs.lemmas.Option.{get_or_from_slice_get, slice_get-get_or, slice_get_within}
use Rattle.gate.specs.declared.gate.Gate.{Gate}
use Rattle.gate.specs.declared.object.Object.{Ghosts}
use Rattle.gate.specs.declared.pass.Pass.{Pass}
use Rattle.gate_tests.specs.InOrder.{ComesBack, InOrder}

-- what stands at a place within a list
pub stands-at : {A : Type 0} (xs : List A) (n : ℕ) → n < length xs → (x : A) × (slice_get xs n ≡ Some x)
stands-at [] n below = absurd (omega arith)
stands-at (x ∷ xs) zero below = (x, refl)
stands-at (x ∷ xs) (suc n) below = stands-at xs n (omega arith)

-- what stands at a place stands there too where more follows
pub stays-at : {A : Type 0} (xs ys : List A) (k : ℕ) (y : A) → slice_get xs k ≡ Some y → slice_get (xs ++ ys) k ≡ Some y
stays-at [] ys k y is = absurd (cc)
stays-at (x ∷ xs) ys zero y is = is
stays-at (x ∷ xs) ys (suc k) y is = stays-at xs ys k y is

module _ {O Q R P C : Type 0} {g : Ghosts O Q R P C} where
  -- where each pass comes back at its place they lie in the order of their numbers as before
  pub each-back : (x : Gate O Q R P C) (ps ps' : List (Pass O Q R P C g)) → length ps' ≡ length ps
      → ((k : ℕ) (d : Pass O Q R P C g) → k < length ps → ComesBack x (get_or ps k d) (get_or ps' k d)) → InOrder x ps → InOrder x ps'
  each-back x ps ps' count each own k p there =
      let below : k < length ps = subst (λ n. k < n) count (slice_get_within ps' k p there) in
      let back : ComesBack x (get_or ps k p) p = subst (ComesBack x (get_or ps k p)) (get_or_from_slice_get ps' k p p there) (each k p below) in
      (back.0, back.1 ∙ (own k (get_or ps k p) (slice_get-get_or ps k p below)).1)
