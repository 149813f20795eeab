-- the calls of lanes, and the numbers of their lines
use Rattle.std.proofs.Common.{◌≡◌, ℕ, suc, ◌+◌, ◌-◌, ◌<◌, ◌≤◌, ◌⊎◌, ◌^◌, min, List, [], ◌∷◌, ◌++◌, length, map, Bool, true, false, cond, eqb, Result, Ok, Err, inl, inr, refl, sym, ap, ap₂, ◌∙◌, append_assoc, arith}
use Rattle.std.proofs.lemmas.Bool.{cases_lt}
use Rattle.std.proofs.lemmas.List.{append-nil, map-append}
use Rattle.std.proofs.Math.Nat.{min-eq_left, min-eq_right}
use Rattle.wf_event_values.specs.declared.refusal.Refusal.{Refusal}
use Rattle.service_model_types.specs.declared.call.Call.{Call}
use Rattle.wire_requests.specs.declared.calls.Asked.{Asked}
use Rattle.wire_requests.specs.declared.calls.Asked.TheVariants.{Barrier as a_barrier, Call as in_a_lane}
use Rattle.lanes.specs.declared.calls.LineCall.{LineCall}
use Rattle.lanes.specs.Calls.{counted_from, number_at}
use Rattle.lanes.specs.Lanes.{calls_in, own_calls, place_in}
use Rattle.lanes.specs.Numbers.{numbers_in, own_number}

abbrev pub line_call : ℕ → Call → LineCall
line_call number call = record { line = number; call = call }

-- ---- numbers

-- a number that is reached in two steps
pub number-then : (first n i : ℕ) → number_at (number_at first n) i ≡ number_at first (n + i)
number-then first n i = go (cases_lt (2 ^ 64 - 1) (first + n))
  where
    go : (2 ^ 64 - 1 < first + n) ⊎ (first + n ≤ 2 ^ 64 - 1) → number_at (number_at first n) i ≡ number_at first (n + i)
    go (inl past) =
        ap (λ m. number_at m i) (min-eq_right {n = 2 ^ 64 - 1} {m = first + n} (omega (arith, past))) ∙ min-eq_right {n = 2 ^ 64 - 1} {m = 2 ^ 64 - 1 + i} (omega arith)
        ∙ sym (min-eq_right {n = 2 ^ 64 - 1} {m = first + (n + i)} (omega (arith, past)))
    go (inr within) = ap (λ m. number_at m i) (min-eq_left {n = first + n} {m = 2 ^ 64 - 1} within) ∙ ap (λ m. min m (2 ^ 64 - 1)) (let e : first + n + i ≡ first + (n + i) = omega arith in e)

-- a number that there is
pub number-within : (first i : ℕ) → first + i < 2 ^ 64 → number_at first i ≡ first + i
number-within first i below = min-eq_left {n = first + i} {m = 2 ^ 64 - 1} (omega (arith, below))

-- ---- calls

-- the same numbers make the same calls
pub calls-same : (k : ℕ) (f g : ℕ → ℕ) (asks : List (Result Asked Refusal)) → ((i : ℕ) → i < length asks → f i ≡ g i) → calls_in k f asks ≡ calls_in k g asks
calls-same k f g [] same = refl
calls-same k f g (ask ∷ asks) same = ap₂ (λ n more. own_calls k n ask ++ more) (same 0 (omega arith)) (calls-same k (λ i. f (suc i)) (λ i. g (suc i)) asks (λ i below. same (suc i) (omega (arith, below))))

pub calls-append : (k : ℕ) (f : ℕ → ℕ) (asks more : List (Result Asked Refusal)) → calls_in k f (asks ++ more) ≡ calls_in k f asks ++ calls_in k (λ i. f (length asks + i)) more
calls-append k f [] more = calls-same k f (λ i. f (0 + i)) more (λ i below. ap f (let e : i ≡ 0 + i = omega arith in e))
calls-append k f (ask ∷ asks) more =
    ap (λ x. own_calls k (f 0) ask ++ x) (calls-append k (λ i. f (suc i)) asks more
    ∙ ap (λ x. calls_in k (λ i. f (suc i)) asks ++ x) (calls-same k (λ i. f (suc (length asks + i))) (λ i. f (length (ask ∷ asks) + i)) more (λ i below. ap f (let e : suc (length asks + i) ≡ length (ask ∷ asks) + i = omega arith in e))))
    ∙ sym (append_assoc (own_calls k (f 0) ask) (calls_in k (λ i. f (suc i)) asks) (calls_in k (λ i. f (length (ask ∷ asks) + i)) more))

pub calls-push : (k : ℕ) (f : ℕ → ℕ) (asks : List (Result Asked Refusal)) (ask : Result Asked Refusal) → calls_in k f (asks ++ ask ∷ []) ≡ calls_in k f asks ++ own_calls k (f (length asks)) ask
calls-push k f asks ask =
    calls-append k f asks (ask ∷ []) ∙ ap (λ x. calls_in k f asks ++ x) (append-nil (own_calls k (f (length asks + 0)) ask) ∙ ap (λ n. own_calls k (f n) ask) (let e : length asks + 0 ≡ length asks = omega arith in e))

own-counted : (first k n : ℕ) (ask : Result Asked Refusal) → map (counted_from first) (own_calls k n ask) ≡ own_calls k (number_at first n) ask
own-counted first k n (Ok a_barrier) = refl
own-counted first k n (Ok (in_a_lane c)) = only (eqb c.lane k)
  where
    only : (b : Bool) → map (counted_from first) (cond b (line_call n c.call ∷ []) []) ≡ cond b (line_call (number_at first n) c.call ∷ []) []
    only true = refl
    only false = refl
own-counted first k n (Err refusal) = refl

-- calls whose lines count from this number on
pub calls-counted : (first k : ℕ) (g : ℕ → ℕ) (asks : List (Result Asked Refusal)) → map (counted_from first) (calls_in k g asks) ≡ calls_in k (λ i. number_at first (g i)) asks
calls-counted first k g [] = refl
calls-counted first k g (ask ∷ asks) =
    map-append (counted_from first) (own_calls k (g 0) ask) (calls_in k (λ i. g (suc i)) asks) ∙ ap₂ (λ x y. x ++ y) (own-counted first k (g 0) ask) (calls-counted first k (λ i. g (suc i)) asks)

-- ---- the numbers of a lane's calls

abbrev pub line_of : LineCall → ℕ
line_of c = c.line

own-number : (k m n : ℕ) (ask : Result Asked Refusal) → m ≡ n → map line_of (own_calls k m ask) ≡ own_number k n (place_in ask)
own-number k m n (Ok a_barrier) is = refl
own-number k m n (Ok (in_a_lane c)) is = only (eqb c.lane k)
  where
    only : (b : Bool) → map line_of (cond b (line_call m c.call ∷ []) []) ≡ cond b (n ∷ []) []
    only true = ap (λ x. x ∷ []) is
    only false = refl
own-number k m n (Err refusal) is = refl

pub calls-numbers : (k : ℕ) (f : ℕ → ℕ) (n : ℕ) (asks : List (Result Asked Refusal)) → ((i : ℕ) → i < length asks → f i ≡ n + i) → map line_of (calls_in k f asks) ≡ numbers_in k n (map place_in asks)
calls-numbers k f n [] same = refl
calls-numbers k f n (ask ∷ asks) same =
    let here : f 0 ≡ n = same 0 (omega arith) ∙ (let e : n + 0 ≡ n = omega arith in e) in
    map-append line_of (own_calls k (f 0) ask) (calls_in k (λ i. f (suc i)) asks)
    ∙ ap₂ (λ x y. x ++ y) (own-number k (f 0) n ask here) (calls-numbers k (λ i. f (suc i)) (n + 1) asks (λ i below. same (suc i) (omega (arith, below)) ∙ (let e : n + suc i ≡ n + 1 + i = omega arith in e)))
