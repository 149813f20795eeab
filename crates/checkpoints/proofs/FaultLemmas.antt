-- why a text gives no shard of a service
use Rattle.std.proofs.Common.{◌≡◌, ℕ, ◌<◌, ◌≤◌, ◌^◌, ◌⊎◌, inl, inr, List, Result, Ok, Err, ap, cond, true, refl, subst, arith, ◌∙◌}
use Rattle.std.specs.Prelude.{nat_le}
use Rattle.std.proofs.lemmas.Bool.{cases_lt}
use Rattle.std.proofs.lemmas.Bool.Decides.{nat_tests}
use Rattle.wf_event_values.specs.Limits.{span_in}
use Rattle.wf_event_values.specs.declared.field.Field.{Field}
use Rattle.wf_event_values.specs.declared.refusal.Refusal.TheVariants.{InvalidArgument}
use Rattle.wf_event_values.specs.declared.refusal.Refusal.{Refusal}
use Rattle.service_model_types.specs.declared.content.Setup.{Setup}
use Rattle.service_model_types.specs.declared.settings.Settings.{Settings}
use Rattle.service.specs.Contents.{setup_of}
use Rattle.service.specs.Ranges.{range_fault}
use Rattle.service.specs.Services.{IsInRange}
use Rattle.service.proofs.OpenLemmas.{in-range}
use Rattle.shard_snapshot.specs.Texts.{IsTextFault}
use Rattle.shard_snapshot.specs.declared.fault.RestoreFault.{RestoreFault}
use Rattle.shard_snapshot.specs.declared.fault.RestoreFault.TheVariants as of_text
use Rattle.checkpoints.specs.Faults.{IsLoadFault, IsNoShard, IsShardFault, load_fault}
use Rattle.checkpoints.specs.declared.fault.LoadFault.{LoadFault}
use Rattle.checkpoints.specs.declared.fault.LoadFault.TheVariants as of_load

out-of-range : (K : Settings) → (IsInRange K → ⊥) → (fault : Refusal) × (range_fault K ≡ Err fault)
out-of-range K not = by (range_fault K) refl
  where
    by : (r : Result (Unit {0}) Refusal) → range_fault K ≡ r → (fault : Refusal) × (range_fault K ≡ Err fault)
    by (Ok tt) is = absurd (not (in-range K is))
    by (Err fault) is = (fault, is)

-- the service has no such shard
pub many-shards : (K : Settings) (k : ℕ) → 64 < K.shards → IsNoShard K k
many-shards K k many = inr (out-of-range K (λ r. omega (arith, many, r.few_shards)))

pub past-shards : (K : Settings) (k : ℕ) → K.shards ≤ k → IsNoShard K k
past-shards K k past = inl past

pub large-service : (K : Settings) (k : ℕ) → 2 ^ 48 ≤ K.service → IsNoShard K k
large-service K k large = inr (out-of-range K (λ r. omega (arith, large, r.service)))

pub long-retention : (K : Settings) (k : ℕ) → 10 ^ 12 < K.retention → IsNoShard K k
long-retention K k long = inr (out-of-range K (λ r. omega (arith, long, r.retention)))

ok-or-err : (n : ℕ) (e : Refusal) (r : Result ℕ Refusal) → r ≡ Ok n → r ≡ Err e → ⊥
ok-or-err n e r one other = cc

-- a duration that is refused is too long
pub span-long : (field : Field) (n : ℕ) (r : Result ℕ Refusal) (e : Refusal) → r ≡ span_in field n → r ≡ Err e → 10 ^ 12 < n
span-long field n r e is err = by (cases_lt (10 ^ 12) n)
  where
    by : (10 ^ 12 < n) ⊎ (n ≤ 10 ^ 12) → 10 ^ 12 < n
    by (inl long) = long
    by (inr short) =
        let test : nat_le n (10 ^ 12) ≡ true = grind (arith, nat_tests) in
        absurd (ok-or-err n e r (is ∙ ap (λ b. cond b (Ok n) (Err (InvalidArgument field))) test) err)

-- a text's fault, as that of a load
pub fault-of-text : (setup : Setup) (text : List ℕ) (e : RestoreFault) → IsTextFault setup e text → IsLoadFault setup text (load_fault e)
fault-of-text setup text of_text.Memory h = tt
fault-of-text setup text (of_text.Read e) h = tt
fault-of-text setup text (of_text.Damaged line damage) h = h

-- a load's fault, as that of a shard of the service
pub fault-of-load : (K : Settings) (k : ℕ) (setup : Setup) (text : List ℕ) (e : LoadFault) → setup ≡ setup_of K k → IsLoadFault setup text e → IsShardFault K k text e
fault-of-load K k setup text of_load.Memory is h = tt
fault-of-load K k setup text (of_load.Damaged line damage) is h = subst (λ (s : Setup). IsLoadFault s text (of_load.Damaged line damage)) is h
fault-of-load K k setup text of_load.Queue is h = subst (λ (s : Setup). IsLoadFault s text of_load.Queue) is h
fault-of-load K k setup text of_load.Settings is h = absurd h
