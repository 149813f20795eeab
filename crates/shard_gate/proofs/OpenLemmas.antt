-- how shards are opened from their records
use Rattle.std.proofs.Common.{◌≡◌, List, [], ◌∷◌, ◌++◌, refl, sym, ap, subst, ◌∙◌}
use Rattle.std.proofs.lemmas.List.{append_assoc}
use Rattle.std.specs.Prelude.{flat_map, length, slice_get, Some}
use Rattle.std.specs.List.{AllByRecursion, fold}
use Rattle.service_model_types.specs.declared.content.Content.{Content}
use Rattle.service_model_types.specs.declared.request.Request.{Request}
use Rattle.service_model.specs.Service.{Entry, after}
use Rattle.gate.specs.Records.{Each, replay}

-- a replay is the definition's
pub replay-same : (S : Content) (R : List Entry) → replay after S R ≡ fold (λ S (e : Entry). after S e.request) S R
replay-same S [] = refl
replay-same S (e ∷ R) = replay-same (after S e.request) R

-- so it is where the object goes on as the definition does
pub replay-as : (goes : Content → Request → Content) → goes ≡ after → (S T : Content) → S ≡ T → (log given : List Entry) → log ≡ given → replay goes S log ≡ replay after T given
replay-as goes is S T opened log given same = ap (λ g. replay g S log) is ∙ ap (λ c. replay after c log) opened ∙ ap (replay after T) same

-- one more task list after the others
pub flat-push : {A B : Type 0} (f : A → List B) (xs : List A) (x : A) → flat_map f (xs ++ x ∷ []) ≡ flat_map f xs ++ f x
flat-push {B = B} f [] x = ends (f x)
  where
    ends : (t : List B) → t ++ [] ≡ t
    ends [] = refl
    ends (y ∷ t) = ap (λ l. y ∷ l) (ends t)
flat-push f (y ∷ xs) x = ap (λ t. f y ++ t) (flat-push f xs x) ∙ sym (append_assoc (f y) (flat_map f xs) (f x))

-- what holds of all holds in the middle
pub all-middle : {A : Type 0} (P : A → Type 0) (xs ys : List A) (x : A) (all : List A) → all ≡ xs ++ x ∷ ys → AllByRecursion P all → P x
all-middle {A = A} P xs ys x all is h = inside xs (subst (AllByRecursion P) is h)
  where
    inside : (xs : List A) → AllByRecursion P (xs ++ x ∷ ys) → P x
    inside [] h = h.0
    inside (y ∷ xs) h = inside xs h.1

-- what holds of each at its place does so too
pub each-middle : {A : Type 0} (P : A → Type 0) (xs ys : List A) (x : A) (all : List A) → all ≡ xs ++ x ∷ ys → Each all (λ k y. P y) → P x
each-middle {A = A} P xs ys x all is h = h (length xs) x (ap (λ t. slice_get t (length xs)) is ∙ there xs)
  where
    there : (zs : List A) → slice_get (zs ++ x ∷ ys) (length zs) ≡ Some x
    there [] = refl
    there (z ∷ zs) = there zs
