-- a service that was opened from records was resumed from shards without runs and these records
use Rattle.std.proofs.Common.{◌≡◌, ap, sym, ◌∙◌, subst, List, length, Ok, Err}
use Rattle.std.proofs.lemmas.List.{length-map}
use mathlib.Core.List.{map-map}
use Rattle.std.specs.Prelude.{Result, IfErr, map}
use Rattle.std.specs.List.{range_with_len}
use Rattle.service_model_types.specs.declared.content.Dispatch.{Dispatch}
use Rattle.service_model_types.specs.declared.request.Hint.{Hint}
use Rattle.service_model_types.specs.declared.settings.Settings.{Settings}
use Rattle.wf_event_values.specs.declared.refusal.Refusal.{Refusal}
use Rattle.service_model.specs.Service.{Entry}
use Rattle.gate.specs.SlotRule.{at}
use Rattle.shard_gate.specs.Starts.{Start, from_setups, opened_with, starting_empty, waiting_in}
use Rattle.shard_gate.specs.declared.source.Source.{Source}
use Rattle.service.specs.Contents.{setup_of}
use Rattle.service.specs.HeldHints.{OpensFrom}
use Rattle.service.specs.Ranges.{range_fault}
use Rattle.service.specs.Reopening.{held_from, record_at, records_fault, unless_fault}
use Rattle.service.specs.Resuming.{Resumes, resumes_from}
use Rattle.service.specs.ServiceViews.{Pass, Service}
use Rattle.service.specs.Starting.{AreStarts}
use Rattle.service.proofs.ReopenLemmas.{Given, base-is, given-count, opens-as, opens-with, records-right, waiting-is}
use Rattle.service.proofs.StartLemmas.{starts-empty}

-- the contents of shards without runs
pub empty-start : (K : Settings) (gs : List Given) → map (λ (g : Given). g.0) gs ≡ map (λ k. setup_of K k) (range_with_len 0 K.shards) → AreStarts K (opened_with (from_setups gs))
empty-start K gs setups = subst (AreStarts K) (sym (opens-with K gs setups)) (starts-empty K)

-- what resuming comes to, where the settings are in their ranges: then the pushes decide
pub resumes-as : (source : Source) (K : Settings) (shards : List Start) (ds : List Dispatch) (r : Result (List (List Hint)) Refusal)
    → range_fault K ≡ Ok tt → ds ≡ waiting_in source shards → held_from source K ds ≡ r → resumes_from source K shards ≡ r
resumes-as source K shards ds r range waits pushed =
    ap (λ f. unless_fault f (held_from source K (waiting_in source shards))) range ∙ ap (held_from source K) (sym waits) ∙ pushed

-- what such a service is
pub opened-as : (source : Source) (K : Settings) (R : List (List Entry)) (gs : List Given) (x : Service) (passes : List Pass)
    → map (λ (g : Given). g.0) gs ≡ map (λ k. setup_of K k) (range_with_len 0 K.shards)
    → map (λ (g : Given). g.1) gs ≡ map (record_at R) (range_with_len 0 K.shards)
    → records_fault K R ≡ Ok tt → Resumes source K (from_setups gs) x passes → OpensFrom source K R x passes
opened-as source K R gs x passes setups logs right h =
    let records : x.gate.origin.bases ≡ map (record_at R) (range_with_len 0 K.shards) = h.records ∙ map-map (λ (s : Start). s.1) starting_empty gs ∙ logs in
    let pushed = ap (λ f. unless_fault f (held_from source K (waiting_in source (from_setups gs)))) (sym h.range) ∙ h.held.resumed in
    record {
      own = h.own;
      fresh = h.fresh;
      records = λ s. ap (λ t. at t s) records ∙ base-is K R s (records-right K R right);
      width = ap length h.records ∙ length-map (from_setups gs) (λ (s : Start). s.1) ∙ length-map gs starting_empty ∙ given-count K gs setups;
      starts = h.starts ∙ opens-with K gs setups;
      held = record {
        held = h.held.held;
        opened = opens-as source K R (waiting_in source (from_setups gs)) (Ok h.held.held) h.range right (waiting-is source K R gs setups logs) pushed;
        fresh = h.held.fresh;
      };
      settings = h.settings;
      count = h.count;
      range = h.range;
    }

-- what holds of the value of an Err
pub err-weaker : {T E : Type 0} (r : Result T E) (P Q : E → Type 0) → ((e : E) → P e → Q e) → IfErr r P → IfErr r Q
err-weaker (Ok x) P Q f h = tt
err-weaker (Err e) P Q f h = f e h
