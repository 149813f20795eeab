-- the first lane's pass meets every other
use Rattle.std.proofs.Common.{◌≡◌, ℕ, ◌+◌, ◌<◌, ◌≤◌, ◌⊎◌, All, List, [], ◌∷◌, ◌++◌, take, length, set, get_or, inl, inr, sym, ap, subst, ◌∙◌, arith}
use Rattle.std.proofs.lemmas.Bool.{cases_eq}
use Rattle.std.proofs.lemmas.List.{get_or-map, get_or-set_other, get_or-set_same, length-map, length-set, map-set, take_all, take_more, take_more_set}
use Rattle.service.specs.ServiceViews.{Pass}
use Rattle.lanes.specs.declared.lane.Lane.{Lane}
use Rattle.lanes.specs.Course.{Meets, FirstMet, InTurn}
use Rattle.lanes.specs.Lanes.{passes_of}
use Rattle.lanes.proofs.TurnLemmas.{turn-append, turn-one}

-- the first of these passes, p, met the others so far, and is q
abbrev pub HasMet : Meets → Pass → List Pass → List Pass → Pass → Type 0
HasMet meets p others others' q = InTurn (λ q other other' q'. meets q other q' other') p others others' q

module _ {Keeper Plan : Type 0} where
  -- it met the next one
  pub met-one : (meets : Meets) (p q q' : Pass) (xs ys : List (Lane Keeper Plan)) (i : ℕ) (x y : Lane Keeper Plan) → i < length ys → length ys ≡ length xs → get_or ys i x ≡ get_or xs i x → x ≡ get_or ys i x → meets q x.pass q' y.pass
      → HasMet meets p (take i (passes_of xs)) (take i (passes_of ys)) q → HasMet meets p (take (i + 1) (passes_of xs)) (take (i + 1) (passes_of (set ys i y))) q'
  met-one meets p q q' xs ys i x y below count same is met h =
      let pass_of : (Lane Keeper Plan) → Pass = λ l. l.pass in
      let within : i < length xs = omega (arith, below, count) in
      let was : get_or (passes_of xs) i x.pass ≡ x.pass = get_or-map pass_of xs i x x.pass within ∙ ap pass_of (sym same ∙ sym is) in
      let before : take (i + 1) (passes_of xs) ≡ take i (passes_of xs) ++ x.pass ∷ [] =
      take_more (passes_of xs) i x.pass (omega (arith, within, length-map xs pass_of)) ∙ ap (λ o. take i (passes_of xs) ++ o ∷ []) was in
      let now : take (i + 1) (passes_of (set ys i y)) ≡ take i (passes_of ys) ++ y.pass ∷ [] =
      ap (take (i + 1)) (map-set pass_of ys i y) ∙ take_more_set (passes_of ys) i y.pass (omega (arith, below, length-map ys pass_of)) in
      rw (before, now) (turn-append (λ q other other' q'. meets q other q' other') p q q' (take i (passes_of xs)) (x.pass ∷ []) (take i (passes_of ys)) (y.pass ∷ []) h (turn-one (λ q other other' q'. meets q other q' other') q q' x.pass y.pass met))

  -- it met all
  pub met-all : (meets : Meets) (first first' : Lane Keeper Plan) (xs ys : List (Lane Keeper Plan)) (i : ℕ) → length xs ≤ i → length ys ≡ length xs → HasMet meets first.pass (take i (passes_of xs)) (take i (passes_of ys)) first'.pass → FirstMet meets (passes_of (first ∷ xs)) (passes_of (first' ∷ ys))
  met-all meets first first' xs ys i past count h =
      let before : take i (passes_of xs) ≡ passes_of xs = take_all i (passes_of xs) (omega (arith, past, length-map xs (λ (l : Lane Keeper Plan). l.pass))) in
      let now : take i (passes_of ys) ≡ passes_of ys = take_all i (passes_of ys) (omega (arith, past, count, length-map ys (λ (l : Lane Keeper Plan). l.pass))) in
      subst (λ x. HasMet meets first.pass x (passes_of ys) first'.pass) before (subst (λ x. HasMet meets first.pass (take i (passes_of xs)) x first'.pass) now h)

  -- it holds of all passes still, where it holds of the new one
  pub all-set : (P : Pass → Type 0) (ys : List (Lane Keeper Plan)) (i : ℕ) (y : Lane Keeper Plan) → P y.pass → All (λ (l : Lane Keeper Plan). P l.pass) ys → All (λ (l : Lane Keeper Plan). P l.pass) (set ys i y)
  all-set P ys i y p all k d below = by-place (cases_eq k i)
    where
      within : k < length ys
      within = omega (arith, below, length-set ys i y)

      by-place : (k ≡ i) ⊎ (¬ (k ≡ i)) → P (get_or (set ys i y) k d).pass
      by-place (inl own) = subst (λ (l : Lane Keeper Plan). P l.pass) (sym (ap (λ n. get_or (set ys i y) n d) own ∙ get_or-set_same ys i y d (omega (arith, within, own)))) p
      by-place (inr other) = subst (λ (l : Lane Keeper Plan). P l.pass) (sym (get_or-set_other ys i k y d other)) (all k d within)
