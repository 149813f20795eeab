-- arrays' elements, and steps for each member of a list
use Rattle.std.proofs.Common.{◌≡◌, ◌∙◌, sym, ap, refl, ℕ, ◌<◌, ◌≤◌, Bool, true, false, cond, List, [], ◌∷◌, ◌++◌, length, append_assoc, append-nil, arith}
use Rattle.std.proofs.lemmas.Bool.Decides.{nat_tests}
use Rattle.std.proofs.lemmas.List.{length-map}
use Rattle.std.specs.Prelude.{map, nat_le, Some, Result, Ok, Err}
use Rattle.serde_json.specs.Data.{Data}
use Rattle.serde_json.specs.Find.{as_array}
use Rattle.serde_json.specs.View.{items_of}
use Rattle.wf_event_values.specs.declared.field.Field.{Field}
use Rattle.wf_event_values.specs.declared.refusal.Refusal.{Refusal}
use Rattle.wf_event_values.specs.declared.refusal.Refusal.TheVariants.{InvalidArgument}
use Rattle.wire_fields.specs.Kinds.{elements, elements_of, array_of, list_in}
use Rattle.wire_fields.specs.Steps.{◌>>=◌, for_each}

pub elements-items_of : (ds : List Data) → elements (items_of ds) ≡ ds
elements-items_of [] = refl
elements-items_of (d ∷ ds) = ap (λ t. d ∷ t) (elements-items_of ds)

pub array-there : (field : Field) (d : Data) (ds : List Data) → Some (items_of ds) ≡ as_array d → array_of field d ≡ Ok ds
array-there field d ds is = rw (← is, elements-items_of ds) refl

pub elements-within : {V : Type 0} (seen : V → Data) (most : ℕ) (field : Field) (d : Data) (vs : List V) → array_of field d ≡ Ok (map seen vs) → length vs ≤ most → elements_of most field d ≡ Ok (map seen vs)
elements-within seen most field d vs is within =
    let chosen : Bool → Result (List Data) Refusal = λ b. cond b (Ok (map seen vs)) (Err (InvalidArgument field)) in
    ap (λ r. r >>= list_in field most) is ∙ ap chosen (test within)
  where
    test : length vs ≤ most → nat_le (length (map seen vs)) most ≡ true
    test h = rw (length-map vs seen) (grind (arith, nat_tests))

pub elements-past : {V : Type 0} (seen : V → Data) (most : ℕ) (field : Field) (d : Data) (vs : List V) → array_of field d ≡ Ok (map seen vs) → most < length vs → elements_of most field d ≡ Err (InvalidArgument field)
elements-past seen most field d vs is past =
    let chosen : Bool → Result (List Data) Refusal = λ b. cond b (Ok (map seen vs)) (Err (InvalidArgument field)) in
    ap (λ r. r >>= list_in field most) is ∙ ap chosen (test past)
  where
    test : most < length vs → nat_le (length (map seen vs)) most ≡ false
    test h = rw (length-map vs seen) (grind (arith, nat_tests))

-- some members are done, and the rest decides what the whole list gives
pub record Doing {A B : Type 0} (step : A → Result B Refusal) (all : List A) (done : List B) (rest : List A) : Type 0 where
  pub decides : for_each step all ≡ (for_each step rest >>= (λ ys. Ok (done ++ ys)))

pub doing-none : {A B : Type 0} (step : A → Result B Refusal) (all : List A) → Doing step all [] all
doing-none step all = record { decides = again (for_each step all) }
  where
    again : {B : Type 0} (r : Result (List B) Refusal) → r ≡ (r >>= (λ ys. Ok ([] ++ ys)))
    again (Ok ys) = refl
    again (Err e) = refl

pub doing-more : {A B : Type 0} (step : A → Result B Refusal) (all : List A) (done : List B) (x : A) (rest : List A) (y : B) → step x ≡ Ok y → Doing step all done (x ∷ rest) → Doing step all (done ++ y ∷ []) rest
doing-more {B = B} step all done x rest y gives doing = record { decides = doing.decides ∙ ap (λ r. (r >>= (λ z. for_each step rest >>= (λ ys. Ok (z ∷ ys)))) >>= (λ ys. Ok (done ++ ys))) gives ∙ moved (for_each step rest) }
  where
    moved : (r : Result (List B) Refusal) → ((r >>= (λ ys. Ok (y ∷ ys))) >>= (λ ys. Ok (done ++ ys))) ≡ (r >>= (λ ys. Ok ((done ++ y ∷ []) ++ ys)))
    moved (Ok ys) = ap Ok (sym (append_assoc done (y ∷ []) ys))
    moved (Err e) = refl

pub doing-refused : {A B : Type 0} (step : A → Result B Refusal) (all : List A) (done : List B) (x : A) (rest : List A) (e : Refusal) → step x ≡ Err e → Doing step all done (x ∷ rest) → for_each step all ≡ Err e
doing-refused step all done x rest e gives doing = doing.decides ∙ ap (λ r. (r >>= (λ z. for_each step rest >>= (λ ys. Ok (z ∷ ys)))) >>= (λ ys. Ok (done ++ ys))) gives

pub doing-done : {A B : Type 0} (step : A → Result B Refusal) (all : List A) (done : List B) → Doing step all done [] → for_each step all ≡ Ok done
doing-done step all done doing = doing.decides ∙ ap Ok (append-nil done)
