-- what stands at the places of lists
use Rattle.std.proofs.Common.{◌≡◌, ℕ, zero, suc, List, [], ◌∷◌, length, map, set, slice_get, None, Some, refl, sym, ap, ◌∙◌, arith}
use Rattle.std.specs.Option.{option_map}
use Rattle.std.proofs.lemmas.Option.{slice_get-map, none-some, same_Some}

pub get-set : {X : Type 0} (xs : List X) (i : ℕ) (x y : X) → slice_get xs i ≡ Some x → slice_get (set xs i y) i ≡ Some y
get-set [] i x y is = absurd (none-some x is)
get-set (z ∷ xs) zero x y is = refl
get-set (z ∷ xs) (suc i) x y is = get-set xs i x y is

pub get-other : {X : Type 0} (xs : List X) (i k : ℕ) (y : X) → ¬ (i ≡ k) → slice_get (set xs i y) k ≡ slice_get xs k
get-other [] i k y other = refl
get-other (z ∷ xs) zero zero y other = absurd (other refl)
get-other (z ∷ xs) zero (suc k) y other = refl
get-other (z ∷ xs) (suc i) zero y other = refl
get-other (z ∷ xs) (suc i) (suc k) y other = get-other xs i k y (λ e. other (ap suc e))

-- a list of the same length has something at each place that the other has
pub there-too : {X Y : Type 0} (xs : List X) (ys : List Y) (i : ℕ) (x : X) → length ys ≡ length xs → slice_get xs i ≡ Some x → (y : Y) × (slice_get ys i ≡ Some y)
there-too [] ys i x same is = absurd (none-some x is)
there-too (z ∷ xs) [] i x same is = absurd (omega (arith, same))
there-too (z ∷ xs) (y ∷ ys) zero x same is = (y, refl)
there-too (z ∷ xs) (y ∷ ys) (suc i) x same is = there-too xs ys i x (omega (arith, same)) is

-- lists with the same at each place
pub same-places : {X : Type 0} (xs ys : List X) → length ys ≡ length xs → ((k : ℕ) (x y : X) → slice_get xs k ≡ Some x → slice_get ys k ≡ Some y → y ≡ x) → ys ≡ xs
same-places [] [] same each = refl
same-places [] (y ∷ ys) same each = absurd (omega (arith, same))
same-places (x ∷ xs) [] same each = absurd (omega (arith, same))
same-places (x ∷ xs) (y ∷ ys) same each = λ i. each 0 x y refl refl i ∷ same-places xs ys (omega (arith, same)) (λ k a b. each (suc k) a b) i

pub gone-too : {X Y : Type 0} (xs : List X) (ys : List Y) (i : ℕ) → length ys ≡ length xs → slice_get xs i ≡ None → slice_get ys i ≡ None
gone-too [] [] i same is = refl
gone-too [] (y ∷ ys) i same is = absurd (omega (arith, same))
gone-too (x ∷ xs) [] i same is = refl
gone-too (x ∷ xs) (y ∷ ys) zero same is = absurd (none-some x (sym is))
gone-too (x ∷ xs) (y ∷ ys) (suc i) same is = gone-too xs ys i (omega (arith, same)) is

-- what stands at a place of a list that another was made of
pub at-map : {X Y : Type 0} (f : X → Y) (xs : List X) (k : ℕ) (x : X) (y : Y) → slice_get xs k ≡ Some x → slice_get (map f xs) k ≡ Some y → f x ≡ y
at-map f xs k x y at_x at_y = same_Some (f x) y (sym (ap (option_map f) at_x) ∙ sym (slice_get-map f xs k) ∙ at_y)

pub map-at : {X Y : Type 0} (f : X → Y) (xs : List X) (k : ℕ) (x : X) → slice_get xs k ≡ Some x → slice_get (map f xs) k ≡ Some (f x)
map-at f xs k x at_x = slice_get-map f xs k ∙ ap (option_map f) at_x
