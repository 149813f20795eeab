-- what is done one after another
use Rattle.std.proofs.Common.{◌≡◌, suc, List, [], ◌∷◌, ◌++◌, length, refl, ap, subst}
use Rattle.lanes.specs.Course.{InTurn}

pub turn-append : {S A B : Type 0} (step : S → A → B → S → Type 0) (s m s' : S) (xs xs2 : List A) (ys ys2 : List B) → InTurn step s xs ys m → InTurn step m xs2 ys2 s' → InTurn step s (xs ++ xs2) (ys ++ ys2) s'
turn-append step s m s' [] xs2 [] ys2 h k = subst (λ x. InTurn step x xs2 ys2 s') h k
turn-append step s m s' [] xs2 (b ∷ ys) ys2 h k = absurd h
turn-append step s m s' (a ∷ xs) xs2 [] ys2 h k = absurd h
turn-append step s m s' (a ∷ xs) xs2 (b ∷ ys) ys2 h k = (h.0, h.1, turn-append step h.0 m s' xs xs2 ys ys2 h.2 k)

pub turn-one : {S A B : Type 0} (step : S → A → B → S → Type 0) (s s' : S) (a : A) (b : B) → step s a b s' → InTurn step s (a ∷ []) (b ∷ []) s'
turn-one step s s' a b h = (s', h, refl)

pub turn-count : {S A B : Type 0} (step : S → A → B → S → Type 0) (s s' : S) (xs : List A) (ys : List B) → InTurn step s xs ys s' → length xs ≡ length ys
turn-count step s s' [] [] h = refl
turn-count step s s' [] (b ∷ ys) h = absurd h
turn-count step s s' (a ∷ xs) [] h = absurd h
turn-count step s s' (a ∷ xs) (b ∷ ys) h = ap suc (turn-count step h.0 s' xs ys h.2)

-- the parts of a course
pub record Split {S A B : Type 0} (step : S → A → B → S → Type 0) (s : S) (xs xs2 : List A) (ys : List B) (s' : S) : Type 0 where
  pub first : List B
  pub second : List B
  pub between : S
  pub parts : ys ≡ first ++ second
  pub before : InTurn step s xs first between
  pub behind : InTurn step between xs2 second s'

pub turn-split : {S A B : Type 0} (step : S → A → B → S → Type 0) (s s' : S) (xs xs2 : List A) (ys : List B) → InTurn step s (xs ++ xs2) ys s' → Split step s xs xs2 ys s'
turn-split step s s' [] xs2 ys h = record { first = []; second = ys; between = s; parts = refl; before = refl; behind = h }
turn-split step s s' (a ∷ xs) xs2 [] h = absurd h
turn-split step s s' (a ∷ xs) xs2 (b ∷ ys) h =
    let rest = turn-split step h.0 s' xs xs2 ys h.2 in
    record { first = b ∷ rest.first; second = rest.second; between = rest.between; parts = ap (λ l. b ∷ l) rest.parts; before = (h.0, h.1, rest.before); behind = rest.behind }
