-- what holds of the passes of all lanes
use Rattle.std.proofs.Common.{◌≡◌, ◌<◌, ℕ, zero, suc, List, [], ◌∷◌, All, Some, map, length, get_or, sym, ap, ◌∙◌, subst, arith}
use Rattle.std.specs.Prelude.{slice_get}
use Rattle.std.proofs.lemmas.List.{get_or-map, length-map}
use Rattle.std.proofs.lemmas.Option.{slice_get-get_or}
use Rattle.service.specs.ServiceViews.{Pass}
use Rattle.lanes.specs.declared.lane.Lane.{Lane}

module _ {Keeper Plan : Type 0} where
  -- it holds of lanes with the same passes
  pub own-same : (P : Pass → Type 0) (xs ys : List (Lane Keeper Plan)) → map (λ (l : Lane Keeper Plan). l.pass) ys ≡ map (λ (l : Lane Keeper Plan). l.pass) xs → All (λ (l : Lane Keeper Plan). P l.pass) xs → All (λ (l : Lane Keeper Plan). P l.pass) ys
  own-same P xs ys same all k d below =
      let count : length ys ≡ length xs = sym (length-map ys (λ (l : Lane Keeper Plan). l.pass)) ∙ ap length same ∙ length-map xs (λ (l : Lane Keeper Plan). l.pass) in
      let within : k < length xs = omega (arith, count, below) in
      let is : (get_or xs k d).pass ≡ (get_or ys k d).pass =
      sym (get_or-map (λ (l : Lane Keeper Plan). l.pass) xs k d d.pass within) ∙ ap (λ l. get_or l k d.pass) (sym same) ∙ get_or-map (λ (l : Lane Keeper Plan). l.pass) ys k d d.pass below in
      subst P is (all k d within)

  -- it holds of lanes made of passes of which it holds
  pub own-of : (P : Pass → Type 0) (ps : List Pass) (ys : List (Lane Keeper Plan)) → map (λ (l : Lane Keeper Plan). l.pass) ys ≡ ps → All P ps → All (λ (l : Lane Keeper Plan). P l.pass) ys
  own-of P ps ys is all k d below =
      let count : length ys ≡ length ps = sym (length-map ys (λ (l : Lane Keeper Plan). l.pass)) ∙ ap length is in
      subst P (ap (λ l. get_or l k d.pass) (sym is) ∙ get_or-map (λ (l : Lane Keeper Plan). l.pass) ys k d d.pass below) (all k d.pass (omega (arith, count, below)))

-- it holds of all members, where it holds of each that stands at some place
pub all-there : {A : Type 0} (P : A → Type 0) (xs : List A) → ((k : ℕ) (x : A) → slice_get xs k ≡ Some x → P x) → All P xs
all-there P xs each k d below = each k (get_or xs k d) (slice_get-get_or xs k d below)

module _ {Keeper Plan : Type 0} where
  -- it holds of each pass of such lanes
  pub passes-own : (P : Pass → Type 0) (ls : List (Lane Keeper Plan)) → All (λ (l : Lane Keeper Plan). P l.pass) ls → (k : ℕ) (p : Pass) → slice_get (map (λ (l : Lane Keeper Plan). l.pass) ls) k ≡ Some p → P p
  passes-own P [] all k p there = absurd (cc there)
  passes-own P (l ∷ ls) all zero p there = let is : l.pass ≡ p = cc there in subst P is (all 0 l (omega arith))
  passes-own P (l ∷ ls) all (suc k) p there = passes-own P ls (λ j d below. all (suc j) d (omega (arith, below))) k p there
