-- so many first numbers, as one is written or one comes
use Rattle.std.proofs.Common.{◌≡◌, ◌≢◌, ℕ, zero, suc, ◌+◌, ◌<◌, ◌≤◌, ◌⊎◌, inl, inr, [], ◌∷◌, ◌++◌, length, slice_index_or, slice_set, append-nil, refl, sym, ap, arith, ◌∙◌}
use Rattle.std.specs.Prelude.{map, replicate}
use Rattle.std.proofs.lemmas.Bool.{cases_eq}
use Rattle.std.proofs.lemmas.List.{append_assoc, ext_get_or, get_or-set_other, get_or-set_same, get_or_append_left, get_or_push, length-set, length_push, replicate_more}
use Rattle.sparse_numbers.specs.Numbers.{Numbers}
use Rattle.sparse_numbers.specs.Pages.{first_numbers}

pub length-first : (f : ℕ → ℕ) (n : ℕ) → length (first_numbers f n) ≡ n
length-first f zero = refl
length-first f (suc n) = let one = length_push (first_numbers f n) (f n) in let rest = length-first f n in omega (arith, one, rest)

pub get-first : (f : ℕ → ℕ) (n k d : ℕ) → k < n → slice_index_or (first_numbers f n) k d ≡ f k
get-first f zero k d low = absurd (omega (arith, low))
get-first f (suc n) k d low = by (get-first f n k d) (cases_eq k n)
  where
    by : (k < n → slice_index_or (first_numbers f n) k d ≡ f k) → (k ≡ n) ⊎ (k ≢ n) → slice_index_or (first_numbers f (suc n)) k d ≡ f k
    by before (inl last) = get_or_push (first_numbers f n) (f n) d k (length-first f n ∙ sym last) ∙ ap f (sym last)
    by before (inr other) =
        get_or_append_left (first_numbers f n) (f n ∷ []) d k (let is = length-first f n in omega (arith, is, low, other)) ∙ before (omega (arith, low, other))

pub same-first : (f g : ℕ → ℕ) (n : ℕ) → ((k : ℕ) → k < n → g k ≡ f k) → first_numbers g n ≡ first_numbers f n
same-first f g zero same = refl
same-first f g (suc n) same =
    ap (λ l. l ++ g n ∷ []) (same-first f g n (λ k low. same k (omega (arith, low)))) ∙ ap (λ v. first_numbers f n ++ v ∷ []) (same n (omega arith))

-- one was written
pub set-first : (f g : ℕ → ℕ) (n i v : ℕ) → i < n → g i ≡ v → ((k : ℕ) → k ≢ i → g k ≡ f k) → first_numbers g n ≡ slice_set (first_numbers f n) i v
set-first f g n i v low here others = ext_get_or 0 _ _ lengths (λ k inside. by k (let is = length-first g n in omega (arith, is, inside)) (cases_eq k i))
  where
    lengths : length (first_numbers g n) ≡ length (slice_set (first_numbers f n) i v)
    lengths = length-first g n ∙ sym (length-first f n) ∙ sym (length-set (first_numbers f n) i v)

    by : (k : ℕ) → k < n → (k ≡ i) ⊎ (k ≢ i) → slice_index_or (first_numbers g n) k 0 ≡ slice_index_or (slice_set (first_numbers f n) i v) k 0
    by k inside (inl same) =
        get-first g n k 0 inside ∙ ap g same ∙ here
        ∙ sym (ap (λ j. slice_index_or (slice_set (first_numbers f n) i v) j 0) same ∙ get_or-set_same (first_numbers f n) i v 0 (let is = length-first f n in omega (arith, is, low)))
    by k inside (inr other) =
        get-first g n k 0 inside ∙ others k other ∙ sym (get_or-set_other (first_numbers f n) i k v 0 other ∙ get-first f n k 0 inside)

-- one came after them
pub push-first : (f g : ℕ → ℕ) (n v : ℕ) → g n ≡ v → ((k : ℕ) → k ≢ n → g k ≡ f k) → first_numbers g (n + 1) ≡ first_numbers f n ++ v ∷ []
push-first f g n v here others =
    let next : n + 1 ≡ suc n = omega arith in
    ap (first_numbers g) next
    ∙ ap (λ l. l ++ g n ∷ []) (same-first f g n (λ k low. others k (λ same. absurd (omega (arith, low, same)))))
    ∙ ap (λ w. first_numbers f n ++ w ∷ []) here

-- so many came after them that are 0
pub zeros-after : (f g : ℕ → ℕ) (n c : ℕ) → ((k : ℕ) → g k ≡ f k) → ((k : ℕ) → n ≤ k → f k ≡ 0) → first_numbers g (n + c) ≡ first_numbers f n ++ replicate c 0
zeros-after f g n zero same blank =
    let none : n + zero ≡ n = omega arith in
    same-first f g (n + zero) (λ k low. same k) ∙ ap (first_numbers f) none ∙ sym (append-nil (first_numbers f n))
zeros-after f g n (suc c) same blank =
    let next : n + suc c ≡ suc (n + c) = omega arith in
    let more : c + 1 ≡ suc c = omega arith in
    ap (first_numbers g) next
    ∙ ap (λ l. l ++ g (n + c) ∷ []) (zeros-after f g n c same blank)
    ∙ ap (λ v. first_numbers f n ++ replicate c 0 ++ v ∷ []) (same (n + c) ∙ blank (n + c) (omega arith))
    ∙ append_assoc (first_numbers f n) (replicate c 0) (0 ∷ [])
    ∙ ap (λ l. first_numbers f n ++ l) (replicate_more c 0 ∙ ap (λ m. replicate m 0) more)

-- what equal numbers stand for is the same
pub map-replicate : {A B : Type 0} (f : A → B) (n : ℕ) (a : A) → map f (replicate n a) ≡ replicate n (f a)
map-replicate f zero a = refl
map-replicate f (suc n) a = ap (λ l. f a ∷ l) (map-replicate f n a)

-- what the list shows of them
module _ (f : ℕ → ℕ) (n room : ℕ) (v : Numbers) (is : record { items = first_numbers f n; room = room } ≡ v) where
  pub items-are : first_numbers f n ≡ v.items
  items-are = ap (λ (w : Numbers). w.items) is

  pub as-many : n ≡ length v.items
  as-many = sym (length-first f n) ∙ ap length items-are

  pub within : (k : ℕ) → k < length v.items → k < n
  within k low = omega (arith, low, as-many)

  pub number-is : (k : ℕ) → k < length v.items → slice_index_or v.items k 0 ≡ f k
  number-is k low = ap (λ l. slice_index_or l k 0) (sym items-are) ∙ get-first f n k 0 (within k low)
