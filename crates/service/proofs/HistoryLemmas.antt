-- the history of a service is a run of it
use Rattle.std.proofs.Common.{◌≡◌, ℕ, zero, suc, ◌+◌, List, [], ◌∷◌, ◌++◌, refl, sym, ap, ◌∙◌, subst, arith, Some}
use Rattle.std.specs.Prelude.{map, slice_get}
use Rattle.std.specs.List.{range_with_len}
use Rattle.service_model_types.specs.declared.content.Content.{Content}
use Rattle.service_model_types.specs.declared.content.Setup.{Setup}
use Rattle.service_model_types.specs.declared.request.Operation.{Operation}
use Rattle.service_model_types.specs.declared.request.Operation.TheVariants as operation
use Rattle.service_model.specs.Grounds.{Grounds}
use Rattle.service_model.specs.Service.{Entry, after, opening}
use Rattle.service_model.specs.WholeRuns.{Whole, on, content_at, Grounded, Holds, Accepted, IsWhole}
use Rattle.gate.specs.Records.{contents, replay, grounds_by}
use Rattle.gate.specs.Records as gate
use Rattle.gate.specs.AtClose.{IsHistory}
use Rattle.shard_gate.specs.Grounding.{grounds}
use Rattle.shard_gate.proofs.OpenLemmas.{replay-same}
use Rattle.service_model_types.specs.declared.settings.Settings.{Settings}
use Rattle.service_model.proofs.WholeLemmas.{in-order}
use Rattle.service.specs.Contents.{opening_contents, setup_of}
use Rattle.service.specs.AtClose.{base_of}
use Rattle.service.specs.HistoryLaws.{HistoriesInOrder}
use Rattle.shard_gate.specs.GateViews as gates

content-there : (starts : List Content) (logs : ℕ → List Entry) (j : ℕ) (S : Content) → slice_get (contents after starts logs) j ≡ Some S → (T : Content) × (slice_get starts j ≡ Some T) × (S ≡ replay after T (logs j))
content-there [] logs j S e = absurd (cc e)
content-there (c ∷ cs) logs zero S e = let h : replay after c (logs 0) ≡ S = cc e in (c, refl, sym h)
content-there (c ∷ cs) logs (suc j) S e = let h = content-there cs (λ k. logs (k + 1)) j S e in let next : j + 1 ≡ suc j = omega arith in (h.0, h.1, h.2 ∙ ap (λ (n : ℕ). replay after h.0 (logs n)) next)

module _ (setups : ℕ → Setup) (starts : List Content) (opened : (j : ℕ) (S : Content) → slice_get starts j ≡ Some S → S ≡ opening (setups j)) (bases : ℕ → List Entry) (none : (k : ℕ) → bases k ≡ []) (front : Whole) where
  the-content : (j : ℕ) (S : Content) → slice_get (contents after starts (gate.grown bases front)) j ≡ Some S → S ≡ content_at setups front j
  the-content j S e = let h = content-there starts (gate.grown bases front) j S e in
      h.2 ∙ (ap (λ (l : List Entry). replay after h.0 (l ++ on j front)) (none j) ∙ ap (λ (T : Content). replay after T (on j front)) (opened j h.0 h.1) ∙ replay-same (opening (setups j)) (on j front))

  pub grounded-of : (s : ℕ) (a : Operation) → Grounds (contents after starts (gate.grown bases front)) s a → Grounded (content_at setups front) s a
  grounded-of s (operation.Deliver t) (source, there, holds) = subst (Holds s t) (the-content t.from source there) holds
  grounded-of s (operation.Acknowledge q) (destination, there, accepted) = subst (Accepted s q) (the-content q.to destination there) accepted
  grounded-of s (operation.Start x) _ = tt
  grounded-of s (operation.Signal x) _ = tt
  grounded-of s (operation.SignalWithStart x) _ = tt
  grounded-of s (operation.RequestCancel x) _ = tt
  grounded-of s (operation.Terminate x) _ = tt
  grounded-of s (operation.StartTask x) _ = tt
  grounded-of s (operation.CompleteWorkflowTask x) _ = tt
  grounded-of s (operation.FailWorkflowTask x) _ = tt
  grounded-of s (operation.CompleteActivity x) _ = tt
  grounded-of s (operation.FailActivity x) _ = tt
  grounded-of s (operation.CancelActivity x) _ = tt
  grounded-of s (operation.Heartbeat x) _ = tt
  grounded-of s (operation.History x) _ = tt
  grounded-of s (operation.Describe x) _ = tt
  grounded-of s operation.TimerTurn _ = tt
  grounded-of s (operation.NextTransfer x) _ = tt
  grounded-of s operation.NextDispatch _ = tt
  grounded-of s (operation.Dispatched x) _ = tt

pub whole-of : (setups : ℕ → Setup) (starts : List Content) → ((j : ℕ) (S : Content) → slice_get starts j ≡ Some S → S ≡ opening (setups j))
    → (bases : ℕ → List Entry) → ((k : ℕ) → bases k ≡ []) → (width : ℕ) (logs : ℕ → List Entry) (tickets : ℕ → List ℕ) (h : IsHistory (grounds_by grounds after starts) bases width logs tickets) → IsWhole setups h.run
whole-of setups starts opened bases none width logs tickets h front rest s e is = grounded-of setups starts opened bases none front s e.request.operation (h.grounded front s e (rest, is))

opened-range : (f : ℕ → Content) (a n j : ℕ) (S : Content) → slice_get (map f (range_with_len a n)) j ≡ Some S → S ≡ f (a + j)
opened-range f a zero j S e = absurd (cc e)
opened-range f a (suc n) zero S e = let h : f a ≡ S = cc e in sym h ∙ ap f (omega arith)
opened-range f a (suc n) (suc j) S e = opened-range f (a + 1) n j S e ∙ ap f (omega arith)

opened-as : (K : Settings) (j : ℕ) (S : Content) → slice_get (opening_contents K) j ≡ Some S → S ≡ opening (setup_of K j)
opened-as K j S e = opened-range (λ n. opening (setup_of K n)) 0 K.shards j S e ∙ ap (λ n. opening (setup_of K n)) (omega arith)

pub histories-in-order : HistoriesInOrder
histories-in-order x records tickets empty none h =
    let opened : (j : ℕ) (S : Content) → slice_get (gates.starts_of x.gate) j ≡ Some S → S ≡ opening (setup_of x.settings j) =
    λ j S there. opened-as x.settings j S (ap (λ t. slice_get t j) (sym empty) ∙ there) in
    let whole = whole-of (setup_of x.settings) (gates.starts_of x.gate) opened (base_of x) none _ _ _ h in
    (whole, λ front rest is from to. in-order (setup_of x.settings) h.run whole front rest is from to)
