-- a service over lanes that was opened or resumed, and what its lines came to
use Rattle.std.proofs.Common.{◌≡◌, ℕ, zero, suc, ◌*◌, ◌<◌, List, [], ◌∷◌, length, map, Bool, Option, refl, sym, ap, subst, ◌∙◌, arith, inl, inr}
use Rattle.std.proofs.lemmas.List.{ext_get_or, length-map}
use Rattle.service_model.specs.Service.{Entry}
use Rattle.service_model_types.specs.declared.content.Content.{Content}
use Rattle.service_model_types.specs.declared.settings.Settings.{Settings}
use Rattle.service_model_types.specs.Replies.{Reply}
use Rattle.gate.specs.AtClose.{HasDone, IsEnd}
use Rattle.matching.specs.AtClose as of_queue
use Rattle.matching.specs.Named as matching
use Rattle.shard_gate.specs.Starts.{Start, opened_with, records_in, starting}
use Rattle.shard_gate.specs.declared.source.Source.{Source}
use Rattle.service.specs.AtClose.{base_of, parts_at}
use Rattle.service.specs.HeldHints.{Opens, OpensFrom}
use Rattle.service.specs.Reopening.{record_at}
use Rattle.service.specs.Resuming.{Resumes}
use Rattle.service.specs.Services.{known_by}
use Rattle.service.specs.ServiceViews.{Service}
use Rattle.service.specs.ServiceViews.{Pass}
use Rattle.service.specs.Starting.{AreStarts}
use Rattle.service.proofs.OpenLemmas.{in-range}
use Rattle.journal_frames.specs.declared.journal.Journal.{Journal}
use Rattle.script.specs.Lines.{Line}
use Rattle.script.specs.Taken.{count_at}
use Rattle.lanes.specs.Begun.{BeganWith, Exactly, hints_of}
use Rattle.lanes.specs.Journaled.{AllSurviveOver, CommittedInBatches, RanInBatches, Reached}
use Rattle.lanes.specs.Reopened.{AreRecordsAfter, BrokeOver, HaltedOver, HintsHeld, IsOpenedFrom, Opening, RanOver}
use Rattle.lanes.proofs.ReopenLemmas.{held-first, opened-from}

-- ---- the opening

pub began-opened : (source : Source) (K : Settings) (R : List (List Entry)) (x : Service) (passes : List Pass) → OpensFrom source K R x passes → BeganWith K x.gate.origin.bases x passes
began-opened source K R x passes h = record {
  settings = h.settings;
  range = h.range;
  count = h.count;
  own = h.own;
  fresh = h.fresh;
  records = λ s. refl;
  width = h.width;
}

pub began-resumed : (source : Source) (K : Settings) (starts : List Start) (x : Service) (passes : List Pass) → AreStarts K (opened_with starts) → Resumes source K starts x passes → BeganWith K x.gate.origin.bases x passes
began-resumed source K starts x passes are h = record {
  settings = h.settings;
  range = h.range;
  count = h.count;
  own = h.own;
  fresh = h.fresh;
  records = λ s. refl;
  width = ap length h.records ∙ length-map starts (λ (g : Start). g.1) ∙ sym (length-map starts (λ (g : Start). g.0)) ∙ are.count;
}

pub opened-so : (K : Settings) (R : List (List Entry)) (x : Service) (passes : List Pass) → Opens K R x passes → IsOpenedFrom K R x passes
opened-so K R x passes h = opened-from K R x passes h.settings h.count h.own h.fresh h.starts h.records h.held

-- records of all shards that are those with which they were opened
pub same-records : (K : Settings) (R : List (List Entry)) (x : Service) → length x.gate.origin.bases ≡ K.shards → ((s : ℕ) → base_of x s ≡ record_at R s) → length R ≡ K.shards → x.gate.origin.bases ≡ R
same-records K R x width records count = ext_get_or [] x.gate.origin.bases R (width ∙ sym count) (λ s below. records s)

count-lengths : (R : List (List Entry)) (s : ℕ) → count_at (map length R) s ≡ length (record_at R s)
count-lengths [] s = refl
count-lengths (log ∷ R) zero = refl
count-lengths (log ∷ R) (suc s) = count-lengths R s

-- the lengths of the records
pub lengths-opened : (K : Settings) (R : List (List Entry)) (x : Service) (lengths : List ℕ) → ((s : ℕ) → base_of x s ≡ record_at R s) → lengths ≡ map length R → (s : ℕ) → s < K.shards → count_at lengths s ≡ length (base_of x s)
lengths-opened K R x lengths records are s below = ap (λ l. count_at l s) are ∙ count-lengths R s ∙ ap length (sym (records s))

count-behind : {S : Type 0} (opening : S → Content) (shards : List (S × List Entry)) (s : ℕ) → count_at (map (λ (g : S × List Entry). length g.1) shards) s ≡ length (record_at (records_in (map (starting opening) shards)) s)
count-behind opening [] s = refl
count-behind opening (g ∷ shards) zero = refl
count-behind opening (g ∷ shards) (suc s) = count-behind opening shards s

pub lengths-resumed : {S : Type 0} (opening : S → Content) (K : Settings) (shards : List (S × List Entry)) (x : Service) (lengths : List ℕ) → x.gate.origin.bases ≡ records_in (map (starting opening) shards) → lengths ≡ map (λ (g : S × List Entry). length g.1) shards
    → (s : ℕ) → s < K.shards → count_at lengths s ≡ length (base_of x s)
lengths-resumed opening K shards x lengths records are s below = ap (λ l. count_at l s) are ∙ count-behind opening shards s ∙ ap (λ rs. length (record_at rs s)) (sym records)

-- ---- from just this service and these passes to what is so of them

module _ (Opened : Opening) (x : Service) (ps : List Pass) (opened : Opened x ps) where
  -- those that are just these are so, too
  so : (y : Service) (qs : List Pass) → Exactly x ps y qs → Opened y qs
  so y qs (same, also) = subst (λ others. Opened y others) (sym also) (subst (λ z. Opened z ps) (sym same) opened)

  pub broke-so : (K : Settings) (r w r' w' : Option (List ℕ)) → BrokeOver (Exactly x ps) K r w r' w' → BrokeOver Opened K r w r' w'
  broke-so K r w r' w' h = record { service = h.service; passes = h.passes; opened = so h.service h.passes h.opened; halted = h.halted }

  pub halted-so : (K : Settings) (trace : Bool) (r w r' w' : Option (List ℕ)) → HaltedOver (Exactly x ps) K trace r w r' w' → HaltedOver Opened K trace r w r' w'
  halted-so K trace r w r' w' (inl none) = inl none
  halted-so K trace r w r' w' (inr (inl h)) = inr (inl (broke-so K r w r' w' h))
  halted-so K trace r w r' w' (inr (inr h)) = inr (inr (record {
    service = h.service;
    passes = h.passes;
    opened = so h.service h.passes h.opened;
    refused = h.refused;
    ends = h.ends;
    replied = h.replied;
    logs = h.logs;
    ran = h.ran;
    one = h.one;
    begun = h.begun;
  }))

  module _ (K : Settings) (R S : List (List Entry)) (same : (s : ℕ) → record_at R s ≡ record_at S s) where
    records-so : (ends : List Pass) (logs : List (List Entry)) → AreRecordsAfter K R ends logs → AreRecordsAfter K S ends logs
    records-so ends logs h = record {
      count = h.count;
      records = λ s log there. subst (λ b. IsEnd b K.passes log) (same s) (h.records s log there);
      passes = λ s log k p there at. subst (λ b. HasDone b (known_by p) s log) (same s) (h.passes s log k p there at);
    }

    -- the hints with which the queues began are those that such a service held
    pub ran-so : (held_by : HintsHeld Opened) (trace : Bool) (r w r' w' : Option (List ℕ)) (refused : Bool) (logs : List (List Entry))
        → ((y : Service) (qs : List Pass) (o : Opened y qs) (slot : ℕ) → slot < 2 * length K.queues → matching.held_at (matching.held_of y.queues) slot ≡ matching.held_at (held_by y qs o) slot)
        → RanOver (Exactly x ps) (hints_of (Exactly x ps)) K trace R r w r' w' refused logs → RanOver Opened held_by K trace S r w r' w' refused logs
    ran-so held_by trace r w r' w' refused logs held h =
        let its = so h.service h.passes h.opened in
        record {
          service = h.service;
          passes = h.passes;
          opened = its;
          ends = h.ends;
          replied = h.replied;
          ran = h.ran;
          records = records-so h.ends logs h.records;
          queues = λ slot below. subst (λ hints. of_queue.IsEnd hints K.passes (parts_at h.ends slot)) (held h.service h.passes its slot below) (h.queues slot below);
          one = h.one;
          traced = h.traced;
        }

    reached-so : (y : Service) (qs : List Pass) (lines : List Line) (replies : List (Option Reply)) (logs : List (List Entry)) → Reached K R y qs lines replies logs → Reached K S y qs lines replies logs
    reached-so y qs lines replies logs h = record { ends = h.ends; served = h.served; records = records-so h.ends logs h.records; one = h.one }

    pub batches-so : (held_by : HintsHeld Opened) (r r' : Option (List ℕ)) (refused : Bool)
        → ((y : Service) (qs : List Pass) (o : Opened y qs) (slot : ℕ) → slot < 2 * length K.queues → matching.held_at (matching.held_of y.queues) slot ≡ matching.held_at (held_by y qs o) slot)
        → RanInBatches (Exactly x ps) (hints_of (Exactly x ps)) K R r r' refused → RanInBatches Opened held_by K S r r' refused
    unfolding reached-so
    batches-so held_by r r' refused held h = record {
      service = h.service;
      passes = h.passes;
      opened = so h.service h.passes h.opened;
      text = h.text;
      read = h.read;
      at_end = h.at_end;
      replies = h.replies;
      logs = h.logs;
      reached = reached-so h.service h.passes _ h.replies h.logs h.reached;
      queues = λ slot below. subst (λ hints. of_queue.IsEnd hints K.passes (parts_at h.reached.ends slot)) (held h.service h.passes (so h.service h.passes h.opened) slot below) (h.queues slot below);
      refused_is = h.refused_is;
    }

    pub committed-so : {D : Type 0} (held_by : HintsHeld Opened) (tells : D → Type 0) (seen : D → List ℕ) (may_leave : D → List ℕ → List ℕ → Type 0) (flushed : D → List ℕ → Type 0) (r r' : Option (List ℕ)) (told : List ℕ) (journal : Journal D) (refused : Bool)
        → ((y : Service) (qs : List Pass) (o : Opened y qs) (slot : ℕ) → slot < 2 * length K.queues → matching.held_at (matching.held_of y.queues) slot ≡ matching.held_at (held_by y qs o) slot)
        → CommittedInBatches (Exactly x ps) (hints_of (Exactly x ps)) tells seen may_leave flushed K R r r' told journal refused → CommittedInBatches Opened held_by tells seen may_leave flushed K S r r' told journal refused
    unfolding batches-so
    committed-so held_by tells seen may_leave flushed r r' told journal refused held h = record { ran = batches-so held_by r r' refused held h.ran; batches = h.batches; at = h.at; records = h.records }

  pub survive-so : {D : Type 0} (moment : D → ℕ) (left_since : D → ℕ → List ℕ → List ℕ → Type 0) (K : Settings) (R S : List (List Entry)) (r r' : Option (List ℕ)) (told : List ℕ) (old new : D) → R ≡ S
      → AllSurviveOver (Exactly x ps) moment left_since K R r r' told old new → AllSurviveOver Opened moment left_since K S r r' told old new
  survive-so moment left_since K R S r r' told old new is h =
      subst (λ logs. AllSurviveOver Opened moment left_since K logs r r' told old new) is (weaker h)
    where
      weaker : AllSurviveOver (Exactly x ps) moment left_since K R r r' told old new → AllSurviveOver Opened moment left_since K R r r' told old new
      weaker (inl none) = inl none
      weaker (inr some) = inr (record { service = some.service; passes = some.passes; opened = so some.service some.passes some.opened; text = some.text; read = some.read; leaves = some.leaves })

-- ---- the hints in the queues

pub held-opened : (K : Settings) (R : List (List Entry)) (x : Service) (passes : List Pass) (o : IsOpenedFrom K R x passes) → 0 < K.passes → (slot : ℕ) → slot < 2 * length K.queues → matching.held_at (matching.held_of x.queues) slot ≡ matching.held_at o.held.held slot
held-opened K R x passes o some = held-first K o.held.held x passes o.settings (omega (arith, some, o.count)) o.own o.held.fresh

pub held-opens : (source : Source) (K : Settings) (R : List (List Entry)) (x : Service) (passes : List Pass) (h : OpensFrom source K R x passes) (slot : ℕ) → slot < 2 * length K.queues → matching.held_at (matching.held_of x.queues) slot ≡ matching.held_at h.held.held slot
held-opens source K R x passes h = held-first K h.held.held x passes h.settings (omega (arith, (in-range K h.range).some_pass, h.count)) h.own h.held.fresh

pub held-resumed : (source : Source) (K : Settings) (starts : List Start) (x : Service) (passes : List Pass) (h : Resumes source K starts x passes) (slot : ℕ) → slot < 2 * length K.queues → matching.held_at (matching.held_of x.queues) slot ≡ matching.held_at h.held.held slot
held-resumed source K starts x passes h = held-first K h.held.held x passes h.settings (omega (arith, (in-range K h.range).some_pass, h.count)) h.own h.held.fresh
