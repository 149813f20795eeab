-- Parts of lists: the first and the others, beginnings, and what is put back into a vector.
use Rattle.std.proofs.Common.{◌≡◌, ◌∙◌, ◌++◌, ◌∷◌, [], ℕ, suc, All, List, ap, append-nil, append_assoc, arith, drop, length, subst, sym, take}
use Rattle.std.proofs.lemmas.List.{take-append-le, take_all}
use Rattle.gate.specs.Records.{Begins}

pub first-and-rest : {A : Type 0} (P : A → Type 0) (xs : List A) (x : A) (rest : List A) → xs ≡ x ∷ rest → All P xs → P x × All P rest
first-and-rest P xs x rest is all =
    let all' : All P (x ∷ rest) = subst (All P) is all in
    (all' 0 x (omega arith), λ k d below. all' (suc k) d (omega arith))

pub begins-same : {A : Type 0} (xs ys : List A) → ys ≡ xs → Begins xs ys
begins-same xs ys is = ([], is ∙ sym (append-nil xs))

pub begins-then : {A : Type 0} (xs ys zs : List A) → Begins xs ys → Begins ys zs → Begins xs zs
begins-then xs ys zs (a, p) (b, q) = (a ++ b, q ∙ ap (λ t. t ++ b) p ∙ append_assoc xs a b)

-- a vector of so many items, of which a slice over all has other items now
pub put-back : {A : Type 0} (n : ℕ) (new old : List A) → length new ≡ n → take n (new ++ drop (length new) old) ≡ new
put-back n new old count = take-append-le n new _ (omega (arith, count)) ∙ take_all n new (omega (arith, count))
