-- a loop over an array's values that reads each of them by a step
use Rattle.std.proofs.Common.{◌≡◌, ◌∙◌, sym, ap, subst, ℕ, suc, ◌+◌, ◌<◌, ◌≤◌, List, [], ◌∷◌, ◌++◌, length, drop, arith}
use Rattle.std.proofs.Math.ListN.{get_or, drop_of_length-le}
use Rattle.std.proofs.Math.Seq.{drop-cons}
use Rattle.std.specs.Prelude.{map, Result, Ok, Err}
use Rattle.serde_json.specs.Data.{Data}
use Rattle.wf_event_values.specs.declared.refusal.Refusal.{Refusal}
use Rattle.wire_fields.specs.Steps.{for_each}
use Rattle.wire_fields.proofs.ListLemmas.{Doing, doing-none, doing-more, doing-refused, doing-done}

-- these members are read, and these values are left
abbrev pub Reading : {V A : Type 0} → (V → Data) → (Data → Result A Refusal) → List V → List A → List V → Type 0
Reading seen step values done rest = Doing step (map seen values) done (map seen rest)

pub reading-none : {V A : Type 0} (seen : V → Data) (step : Data → Result A Refusal) (values : List V) (done : List A) → done ≡ [] → Reading seen step values done values
reading-none {A = A} seen step values done none =
    let Begun : List A → Type 0 = λ xs. Reading seen step values xs values in
    subst Begun (sym none) (doing-none step (map seen values))

pub reading-at : {V A : Type 0} (seen : V → Data) (step : Data → Result A Refusal) (values : List V) (i : ℕ) (value : V) (done : List A) → i < length values → value ≡ get_or values i value → Reading seen step values done (drop i values) → Reading seen step values done (value ∷ drop (i + 1) values)
reading-at {V = V} seen step values i value done there is reading =
    let Left : List V → Type 0 = Reading seen step values done in
    subst Left (drop-cons values i value there ∙ ap (λ x. x ∷ drop (suc i) values) (sym is) ∙ ap (λ k. value ∷ drop k values) next) reading
  where
    next : suc i ≡ i + 1
    next = omega arith

pub reading-more : {V A : Type 0} (seen : V → Data) (step : Data → Result A Refusal) (values : List V) (done : List A) (value : V) (rest : List V) (x : A) (more : List A) → step (seen value) ≡ Ok x → more ≡ done ++ x ∷ [] → Reading seen step values done (value ∷ rest) → Reading seen step values more rest
reading-more {A = A} seen step values done value rest x more gives pushed reading =
    let Pushed : List A → Type 0 = λ xs. Reading seen step values xs rest in
    subst Pushed (sym pushed) (doing-more step (map seen values) done (seen value) (map seen rest) x gives reading)

pub reading-refused : {V A : Type 0} (seen : V → Data) (step : Data → Result A Refusal) (values : List V) (done : List A) (value : V) (rest : List V) (e : Refusal) → step (seen value) ≡ Err e → Reading seen step values done (value ∷ rest) → for_each step (map seen values) ≡ Err e
reading-refused seen step values done value rest e gives reading = doing-refused step (map seen values) done (seen value) (map seen rest) e gives reading

pub reading-done : {V A : Type 0} (seen : V → Data) (step : Data → Result A Refusal) (values : List V) (i : ℕ) (done : List A) → length values ≤ i → Reading seen step values done (drop i values) → for_each step (map seen values) ≡ Ok done
reading-done {V = V} seen step values i done past reading =
    let Left : List V → Type 0 = Reading seen step values done in
    doing-done step (map seen values) done (subst Left (drop_of_length-le values {i = i} past) reading)
