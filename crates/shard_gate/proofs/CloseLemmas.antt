-- how the gate over shards is closed
use Rattle.std.proofs.Common.{◌≡◌, ℕ, zero, suc, ◌+◌, ◌<◌, arith, List, [], ◌∷◌, ◌++◌, length, append_assoc, refl, sym, ap, subst, ◌∙◌, Some}
use Rattle.std.proofs.lemmas.List.{length-append}
use Rattle.std.specs.Prelude.{map, slice_get, slice_index_or}
use Rattle.service_model_types.specs.declared.content.Content.{Content}
use Rattle.service_model_types.specs.declared.request.Request.{Request}
use Rattle.service_model.specs.Service.{Entry, after}
use Rattle.gate.specs.AtClose.{IsHistory}
use Rattle.gate.specs.SlotRule.{at}
use Rattle.gate.specs.Records.{grounds_by}
use Rattle.gate.specs.declared.view.Origin.{Origin}
use Rattle.shard_gate.specs.Grounding.{grounds}

-- two lists of one image have, place by place, members of one image
pub image-at : {A B C : Type 0} (f : A → C) (g : B → C) (xs : List A) (ys : List B) (d : C) → map f xs ≡ map g ys → (k : ℕ) (x : A) → slice_get xs k ≡ Some x → (y : B) × (slice_get ys k ≡ Some y) × (f x ≡ g y)
image-at f g [] ys d same k x there = absurd (cc there)
image-at f g (a ∷ xs) [] d same k x there = absurd (cc same)
image-at f g (a ∷ xs) (b ∷ ys) d same zero x there =
    let first : f a ≡ g b = ap (λ t. slice_index_or t 0 d) same in
    let is : a ≡ x = cc there in
    (b, refl, ap f (sym is) ∙ first)
image-at {C = C} f g (a ∷ xs) (b ∷ ys) d same (suc k) x there = image-at f g xs ys d (ap tail_of same) k x there
  where
    tail_of : List C → List C
    tail_of [] = []
    tail_of (c ∷ cs) = cs

-- there is one member at a place
pub one-at : {A : Type 0} (xs : List A) (k : ℕ) (x y : A) → slice_get xs k ≡ Some x → slice_get xs k ≡ Some y → x ≡ y
one-at xs k x y there also = let both : Some x ≡ Some y = sym there ∙ also in cc both

-- what grounds more grounds a history's steps too
history-more : (needs needs' : (ℕ → List Entry) → ℕ → Request → Type 0) → ((logs : ℕ → List Entry) (k : ℕ) (q : Request) → needs logs k q → needs' logs k q)
    → (bases : ℕ → List Entry) (width : ℕ) (logs : ℕ → List Entry) (tickets : ℕ → List ℕ) → IsHistory needs bases width logs tickets → IsHistory needs' bases width logs tickets
history-more needs needs' more bases width logs tickets h = record {
  run = h.run;
  steps = h.steps;
  entries = h.entries;
  numbered = h.numbered;
  grounded = λ front k e stands. more _ k e.request (h.grounded front k e stands);
}

-- the gate's history is one of the sequential service
pub history-as : (goes : Content → Request → Content) (needs : List Content → ℕ → Request → Type 0) → goes ≡ after → ((contents : List Content) (s : ℕ) (q : Request) → needs contents s q → grounds contents s q)
    → (o o' : Origin Request Content) → o ≡ o' → (width width' : ℕ) → width ≡ width' → (logs logs' : List (List Entry)) → logs ≡ logs' → (stamps stamps' : List (List ℕ)) → stamps ≡ stamps'
    → IsHistory (grounds_by needs goes o.starts) (at o.bases) width (λ k. slice_index_or logs k []) (λ k. slice_index_or stamps k [])
    → IsHistory (grounds_by grounds after o'.starts) (at o'.bases) width' (λ k. slice_index_or logs' k []) (λ k. slice_index_or stamps' k [])
history-as goes needs is all o o' same width width' wide logs logs' log stamps stamps' stamp h =
    let by_after = subst (λ (g : Content → Request → Content). IsHistory (grounds_by needs g o.starts) (at o.bases) width (λ k. slice_index_or logs k []) (λ k. slice_index_or stamps k [])) is h in
    let grounded = history-more (grounds_by needs after o.starts) (grounds_by grounds after o.starts) (λ l k q n. all _ k q n) (at o.bases) width (λ k. slice_index_or logs k []) (λ k. slice_index_or stamps k []) by_after in
    let by_origin = subst (λ (p : Origin Request Content). IsHistory (grounds_by grounds after p.starts) (at p.bases) width (λ k. slice_index_or logs k []) (λ k. slice_index_or stamps k [])) same grounded in
    let by_width = subst (λ (n : ℕ). IsHistory (grounds_by grounds after o'.starts) (at o'.bases) n (λ k. slice_index_or logs k []) (λ k. slice_index_or stamps k [])) wide by_origin in
    let by_logs = subst (λ (l : List (List Entry)). IsHistory (grounds_by grounds after o'.starts) (at o'.bases) width' (λ k. slice_index_or l k []) (λ k. slice_index_or stamps k [])) log by_width in
    subst (λ (t : List (List ℕ)). IsHistory (grounds_by grounds after o'.starts) (at o'.bases) width' (λ k. slice_index_or logs' k []) (λ k. slice_index_or t k [])) stamp by_logs

-- a loop over a list: what it has done is less than all while something is left,
pub one-left : {A : Type 0} (all done rest next : List A) (x : A) → all ≡ done ++ rest → rest ≡ x ∷ next → length done < length all
one-left all done rest next x e f =
    let count = ap length (e ∙ ap (λ l. done ++ l) f) ∙ length-append done (x ∷ next) in
    omega (arith, count)

-- one more then,
pub one-more : {A : Type 0} (done : List A) (x : A) → length (done ++ x ∷ []) ≡ length done + 1
one-more done x = length-append done (x ∷ [])

-- and what is left is what comes after that one
pub goes-on : {A : Type 0} (all done rest next : List A) (x : A) → all ≡ done ++ rest → rest ≡ x ∷ next → all ≡ (done ++ x ∷ []) ++ next
goes-on all done rest next x e f = e ∙ ap (λ l. done ++ l) f ∙ sym (append_assoc done (x ∷ []) next)
