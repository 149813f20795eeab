-- two lists of which the same is read up to a place, and at it
use Rattle.std.proofs.Common.{◌≡◌, ℕ, ◌+◌, ◌<◌, List, [], ◌∷◌, ◌++◌, length, map, take, ap, sym, ◌∙◌}
use Rattle.std.proofs.Math.ListN.{get_or}
use Rattle.std.proofs.lemmas.List.{take_more, map-append}

pub same-more : {A B : Type 0} (f : A → B) (xs ys : List A) (i : ℕ) (d e : A) → i < length xs → i < length ys → map f (take i xs) ≡ map f (take i ys) →
    f (get_or xs i d) ≡ f (get_or ys i e) → map f (take (i + 1) xs) ≡ map f (take (i + 1) ys)
same-more f xs ys i d e there there' same at =
    ap (map f) (take_more xs i d there) ∙ map-append f (take i xs) (get_or xs i d ∷ []) ∙ ap (λ l. l ++ f (get_or xs i d) ∷ []) same
    ∙ ap (λ x. map f (take i ys) ++ x ∷ []) at ∙ sym (map-append f (take i ys) (get_or ys i e ∷ [])) ∙ sym (ap (map f) (take_more ys i e there'))
