-- MEANING: steps that may refuse, one after another: the first refusal is the whole's
use Rattle.std.specs.Prelude.{List, [], ◌∷◌, Result, Ok, Err}
use Rattle.wf_event_values.specs.declared.refusal.Refusal.{Refusal}

infixl 10 ◌>>=◌
-- a step, and the next one where it did not refuse
abbrev pub ◌>>=◌ : {A B : Type 0} → Result A Refusal → (A → Result B Refusal) → Result B Refusal
(Ok x) >>= f = f x
(Err e) >>= f = Err e

-- one step for each member of a list: what all of them give, or the first refusal
abbrev pub for_each : {A B : Type 0} → (A → Result B Refusal) → List A → Result (List B) Refusal
for_each step [] = Ok []
for_each step (x ∷ xs) = step x >>= (λ y. for_each step xs >>= (λ ys. Ok (y ∷ ys)))
