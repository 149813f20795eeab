-- the tasks of a shard that wait: run by run, and where it stands for a content
use Rattle.std.proofs.Common.{◌≡◌, ℕ, zero, suc, ◌+◌, ◌<◌, ◌≤◌, List, [], ◌∷◌, ◌++◌, length, take, refl, sym, ap, ◌∙◌, append-nil, append_assoc, arith}
use Rattle.std.proofs.Math.ListN.{get_or}
use Rattle.std.specs.Prelude.{flat_map}
use Rattle.std.specs.List.{enumerate_from}
use Rattle.service_model_types.specs.declared.content.Content.{Content}
use Rattle.service_model_types.specs.declared.content.Dispatch.{Dispatch}
use Rattle.service_model_types.specs.declared.content.Setup.{Setup}
use Rattle.service_model.specs.RunState.{RunState}
use Rattle.service_model.specs.Waiting.{all_waiting, waiting, waiting_of}
use Rattle.mutable_state.specs.RunView.{RunView}
use Rattle.shard_store.specs.Standing.{StandsFor}
use Rattle.shard_store.specs.ShardView.{ShardState, ShardView, states}

abbrev waits_from : Setup → ℕ → List RunView → List Dispatch
waits_from setup n runs = flat_map (λ (p : ℕ × RunState). waiting_of setup p.0 p.1) (enumerate_from n (states runs))

more-wait : (setup : Setup) (n : ℕ) (runs : List RunView) (i : ℕ) (d : RunView) → i < length runs → waits_from setup n (take (suc i) runs) ≡ waits_from setup n (take i runs) ++ waiting_of setup (n + i) (get_or runs i d).state
more-wait setup n [] i d there = absurd (omega arith)
more-wait setup n (r ∷ runs) zero d there =
    let same : n ≡ n + 0 = omega arith in
    append-nil (waiting_of setup n r.state) ∙ ap (λ k. waiting_of setup k r.state) same
more-wait setup n (r ∷ runs) (suc i) d there =
    let low : i < length runs = omega arith in
    let same : n + 1 + i ≡ n + suc i = omega arith in
    ap (λ l. waiting_of setup n r.state ++ l) (more-wait setup (n + 1) runs i d low ∙ ap (λ k. waits_from setup (n + 1) (take i runs) ++ waiting_of setup k (get_or runs i d).state) same)
    ∙ sym (append_assoc (waiting_of setup n r.state) (waits_from setup (n + 1) (take i runs)) (waiting_of setup (n + suc i) (get_or runs i d).state))

-- those of one run more
pub next-wait : (setup : Setup) (runs : List RunView) (i : ℕ) (d : RunView) → i < length runs → all_waiting setup (states (take (i + 1) runs)) ≡ all_waiting setup (states (take i runs)) ++ waiting_of setup (i + 1) (get_or runs i d).state
next-wait setup runs i d there =
    let next : i + 1 ≡ suc i = omega arith in
    let same : 1 + i ≡ i + 1 = omega arith in
    ap (λ k. all_waiting setup (states (take k runs))) next ∙ more-wait setup 1 runs i d there ∙ ap (λ k. all_waiting setup (states (take i runs)) ++ waiting_of setup k (get_or runs i d).state) same

-- those of all runs
pub all-wait : (xs : List RunView) (i : ℕ) → length xs ≤ i → take i xs ≡ xs
all-wait [] zero h = refl
all-wait [] (suc i) h = refl
all-wait (x ∷ xs) zero h = absurd (omega (arith, h))
all-wait (x ∷ xs) (suc i) h = ap (λ l. x ∷ l) (all-wait xs i (omega (arith, h)))

-- where a shard stands for a content, these are what waits there
pub waiting-of : (v : ShardView) (S : Content) → StandsFor v S → all_waiting v.setup (states v.runs) ≡ waiting S
waiting-of v S h = ap (λ (k : ShardState). all_waiting k.setup k.runs) h.says
