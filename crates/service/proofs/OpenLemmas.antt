-- how a service is opened
use Rattle.std.proofs.Common.{◌≡◌, ℕ, ◌+◌, ◌<◌, ◌≤◌, ◌^◌, drop, slice_index_or, Bool, true, false, List, refl, ap, ◌∙◌, arith}
use Rattle.std.proofs.lemmas.List.{drop_all, drop_more}
use Rattle.std.proofs.lemmas.Bool.Decides.{nat_tests}
use Rattle.std.specs.Prelude.{length, not, if◌then◌else◌, Result, Ok, Err, ◌&&◌, nat_le, nat_lt}
use Rattle.wf_event_values.specs.declared.refusal.Refusal.{Refusal}
use Rattle.service_model_types.specs.declared.settings.Settings.{Settings}
use Rattle.service.specs.Ranges.{are_different, range_fault, stands_in}
use Rattle.service.specs.Services.{IsInRange}

six-tests : (a b c d n m : Bool) (e f g h i j : Refusal) → ◌≡◌ {A = Result (Unit {0}) Refusal} (if a then (if b then (if c then (if d then (if n then (if m then Ok tt else Err j) else Err e) else Err f) else Err g) else Err h) else Err i) (Ok tt) → (a ≡ true) × (b ≡ true) × (c ≡ true) × (d ≡ true) × (n ≡ true) × (m ≡ true)
six-tests true true true true true true e f g h i j is = (refl, refl, refl, refl, refl, refl)
six-tests true true true true true false e f g h i j is = absurd (cc)
six-tests true true true true false m e f g h i j is = absurd (cc)
six-tests true true true false n m e f g h i j is = absurd (cc)
six-tests true true false d n m e f g h i j is = absurd (cc)
six-tests true false c d n m e f g h i j is = absurd (cc)
six-tests false b c d n m e f g h i j is = absurd (cc)

two-tests : (a b : Bool) → (a && b) ≡ true → (a ≡ true) × (b ≡ true)
two-tests true true h = (refl, refl)
two-tests true false h = absurd (cc)
two-tests false b h = absurd (cc)

-- settings without a fault are in their ranges
pub in-range : (K : Settings) → range_fault K ≡ Ok tt → IsInRange K
in-range K h =
    let all = six-tests _ _ _ _ _ _ _ _ _ _ _ _ h in
    let shards = two-tests (nat_le 1 K.shards) (nat_le K.shards 64) all.0 in
    let passes = two-tests (nat_le 1 K.passes) (nat_le K.passes 256) all.1 in
    let queues = two-tests (nat_le 1 (length K.queues) && nat_le (length K.queues) 64) (are_different K.queues) all.3 in
    let names = two-tests (nat_le 1 (length K.queues)) (nat_le (length K.queues) 64) queues.0 in
    let capacity = two-tests (nat_le 1 K.capacity) (nat_le K.capacity 65536) all.4 in
    let s0 : nat_le 1 K.shards ≡ true = shards.0 in
    let s1 : nat_le K.shards 64 ≡ true = shards.1 in
    let p0 : nat_le 1 K.passes ≡ true = passes.0 in
    let p1 : nat_le K.passes 256 ≡ true = passes.1 in
    let n0 : nat_lt K.service (2 ^ 48) ≡ true = all.2 in
    let q0 : nat_le 1 (length K.queues) ≡ true = names.0 in
    let q1 : nat_le (length K.queues) 64 ≡ true = names.1 in
    let c0 : nat_le 1 K.capacity ≡ true = capacity.0 in
    let c1 : nat_le K.capacity 65536 ≡ true = capacity.1 in
    let r0 : nat_le K.retention (10 ^ 12) ≡ true = all.5 in
    record {
      some_shard = grind (arith, nat_tests);
      few_shards = grind (arith, nat_tests);
      some_pass = grind (arith, nat_tests);
      few_passes = grind (arith, nat_tests);
      service = grind (arith, nat_tests);
      some_queue = grind (arith, nat_tests);
      few_queues = grind (arith, nat_tests);
      different = queues.1;
      some_capacity = grind (arith, nat_tests);
      few_capacity = grind (arith, nat_tests);
      retention = grind (arith, nat_tests);
    }

-- names that are looked at from one place on
pub different-step : (names : List (List ℕ)) (i : ℕ) (d : List ℕ) → i < length names → stands_in (slice_index_or names i d) (drop (i + 1) names) ≡ false → are_different (drop i names) ≡ are_different (drop (i + 1) names)
different-step names i d there apart = ap are_different (drop_more names i d there) ∙ ap (λ b. not b && are_different (drop (i + 1) names)) apart

pub different-fails : (names : List (List ℕ)) (i : ℕ) (d : List ℕ) → i < length names → stands_in (slice_index_or names i d) (drop (i + 1) names) ≡ true → are_different (drop i names) ≡ false
different-fails names i d there twice = ap are_different (drop_more names i d there) ∙ ap (λ b. not b && are_different (drop (i + 1) names)) twice

pub different-end : (names : List (List ℕ)) (i : ℕ) → length names ≤ i → are_different (drop i names) ≡ true
different-end names i past = ap are_different (drop_all i names past)
