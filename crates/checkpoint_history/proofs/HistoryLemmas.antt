-- the history of a service since its opening is a run from the contents from which its shards went on
use Rattle.std.proofs.Common.{◌≡◌, ℕ, zero, suc, ◌+◌, ◌<◌, ◌≤◌, List, [], ◌∷◌, ◌++◌, append-nil, length, refl, sym, ap, ◌∙◌, subst, arith, Some}
use Rattle.std.specs.Prelude.{drop, map, slice_get, slice_index_or}
use Rattle.std.specs.List.{range_with_len}
use Rattle.gate.specs.AtClose.{IsHistory}
use Rattle.gate.specs.Records.{contents, grounds_by, replay}
use Rattle.gate.specs.Records as gate
use Rattle.shard_gate.specs.GateViews as gates
use Rattle.shard_gate.specs.Grounding.{grounds}
use Rattle.shard_gate.specs.Starts.{Start, opened_with, records_in}
use Rattle.service.specs.AtClose.{base_of, IsHistoryOf}
use Rattle.service.specs.Contents.{opening_contents, setup_of}
use Rattle.service.specs.ServiceViews.{Service}
use Rattle.service.specs.Starting.{StartsEmpty, start_of}
use Rattle.service_model.specs.Counts.{outgoing_to}
use Rattle.service_model.specs.Deliveries.{accepted_from}
use Rattle.service_model.specs.Grounds.{Grounds}
use Rattle.service_model.specs.Service.{Entry, after, opening}
use Rattle.service_model.specs.WholeRuns.{Whole, on, Accepted, Grounded, Holds}
use Rattle.service_model_types.specs.declared.content.Content.{Content}
use Rattle.service_model_types.specs.declared.request.Operation.{Operation}
use Rattle.service_model_types.specs.declared.request.Operation.TheVariants as operation
use Rattle.service_model_types.specs.declared.request.Request.{Request}
use Rattle.service_model_types.specs.declared.settings.Settings.{Settings}
use Rattle.checkpoint_history.specs.Histories.{IsClosedFrom, LeavesInOrder, OpenedIsBegun, ResumedInOrder, ResumedIsBegun, begun, left}
use Rattle.checkpoint_history.specs.Orders.{AreInOrder, IsWholeFrom, OpeningsAreInOrder, TransfersGoOn, contents_after, openings}

replay-both : (S : Content) (before since : List Entry) → replay after S (before ++ since) ≡ replay after (replay after S before) since
replay-both S [] since = refl
replay-both S (e ∷ before) since = replay-both (after S e.request) before since

same-rest : (xs ys zs : List Entry) → xs ++ ys ≡ xs ++ zs → ys ≡ zs
same-rest [] ys zs e = e
same-rest (x ∷ xs) ys zs e = same-rest xs ys zs (ap (drop 1) e)

-- ---- the contents of all shards, as a list and by their numbers

content-there : (starts : List Content) (logs : ℕ → List Entry) (j : ℕ) (S d : Content) → slice_get (contents after starts logs) j ≡ Some S → S ≡ replay after (slice_index_or starts j d) (logs j)
content-there [] logs j S d e = absurd (cc e)
content-there (c ∷ cs) logs zero S d e = let h : replay after c (logs 0) ≡ S = cc e in sym h
content-there (c ∷ cs) logs (suc j) S d e =
    let next : j + 1 ≡ suc j = omega arith in
    content-there cs (λ k. logs (k + 1)) j S d e ∙ ap (λ (n : ℕ). replay after (slice_index_or cs j d) (logs n)) next

module _ (x : Service) (front : Whole) where
  abbrev All : List Content
  All = contents after (gates.starts_of x.gate) (gate.grown (base_of x) front)

  the-content : (j : ℕ) (S : Content) → slice_get All j ≡ Some S → S ≡ contents_after (begun x) front j
  the-content j S e =
      content-there (gates.starts_of x.gate) (gate.grown (base_of x) front) j S (opening (setup_of x.settings j)) e
      ∙ replay-both (start_of x j) (base_of x j) (on j front)

  grounded-of : (s : ℕ) (a : Operation) → Grounds All s a → Grounded (contents_after (begun x) front) s a
  grounded-of s (operation.Deliver t) (source, there, holds) = subst (Holds s t) (the-content t.from source there) holds
  grounded-of s (operation.Acknowledge q) (destination, there, accepted) = subst (Accepted s q) (the-content q.to destination there) accepted
  grounded-of s (operation.Start q) _ = tt
  grounded-of s (operation.Signal q) _ = tt
  grounded-of s (operation.SignalWithStart q) _ = tt
  grounded-of s (operation.RequestCancel q) _ = tt
  grounded-of s (operation.Terminate q) _ = tt
  grounded-of s (operation.StartTask q) _ = tt
  grounded-of s (operation.CompleteWorkflowTask q) _ = tt
  grounded-of s (operation.FailWorkflowTask q) _ = tt
  grounded-of s (operation.CompleteActivity q) _ = tt
  grounded-of s (operation.FailActivity q) _ = tt
  grounded-of s (operation.CancelActivity q) _ = tt
  grounded-of s (operation.Heartbeat q) _ = tt
  grounded-of s (operation.History q) _ = tt
  grounded-of s (operation.Describe q) _ = tt
  grounded-of s operation.TimerTurn _ = tt
  grounded-of s (operation.NextTransfer q) _ = tt
  grounded-of s operation.NextDispatch _ = tt
  grounded-of s (operation.Dispatched q) _ = tt

-- what grounds a request after the records with which the shards were opened
abbrev pub GroundsBehind : Service → (ℕ → List Entry) → ℕ → Request → Type 0
GroundsBehind x logs k q = grounds_by grounds after (gates.starts_of x.gate) (λ j. base_of x j ++ logs j) k q

-- the records since the opening are those of one history
pub since-history : (x : Service) (records : List (List Entry)) (tickets : List (List ℕ)) (since : List (List Entry)) → IsClosedFrom x records tickets since
    → IsHistory (GroundsBehind x) (λ k. []) x.settings.shards (λ k. slice_index_or since k []) (λ k. slice_index_or tickets k [])
since-history x records tickets since h = record {
  run = h.history.run;
  steps = h.history.steps;
  entries = λ k l. same-rest (base_of x k) _ _ (sym (h.parts k l) ∙ h.history.entries k l);
  numbered = h.history.numbered;
  grounded = h.history.grounded;
}

-- which is a run from there
whole-from : (x : Service) (records : List (List Entry)) (tickets : List (List ℕ)) (h : IsHistoryOf x records tickets) → IsWholeFrom (begun x) h.run
whole-from x records tickets h front rest s e is = grounded-of x front s e.request.operation (h.grounded front s e (rest, is))

pub since-whole : (x : Service) (records : List (List Entry)) (tickets : List (List ℕ)) (since : List (List Entry)) (h : IsClosedFrom x records tickets since)
    → IsWholeFrom (begun x) (since-history x records tickets since h).run
unfolding since-history
since-whole x records tickets since h = whole-from x records tickets h.history

-- ---- what is left

-- two shards' contents are in order
abbrev InOrderOf : ℕ → ℕ → Content × Content → Type 0
InOrderOf from to z =
    ((outgoing_to z.0.outgoing to).acknowledged ≤ accepted_from z.1.accepted from)
    × (accepted_from z.1.accepted from ≤ length (outgoing_to z.0.outgoing to).issued)

pub left-in-order : TransfersGoOn → LeavesInOrder
left-in-order goes x records tickets since h from to less less' =
    let run = h.history.run in
    let at : (k : ℕ) → k < x.settings.shards → contents_after (begun x) run k ≡ left x records k =
    λ k l. sym (replay-both (start_of x k) (base_of x k) (on k run)) ∙ ap (replay after (start_of x k)) (sym (h.history.entries k l)) in
    let all = goes (begun x) run (whole-from x records tickets h.history) from to (h.starts from to less less') run [] (sym (append-nil run)) in
    subst (InOrderOf from to) (λ i. (at from less i, at to less' i)) all.in_order

-- ---- a service that was opened without records

opened-at : (f : ℕ → Content) (a n j : ℕ) → slice_index_or (map f (range_with_len a n)) j (f (a + j)) ≡ f (a + j)
opened-at f a zero j = refl
opened-at f a (suc n) zero = ap f (omega arith)
opened-at f a (suc n) (suc j) =
    let next : a + suc j ≡ (a + 1) + j = omega arith in
    ap (λ k. slice_index_or (map f (range_with_len (a + 1) n)) j (f k)) next ∙ opened-at f (a + 1) n j ∙ ap f (sym next)

begun-empty : (x : Service) → StartsEmpty x → ((k : ℕ) → base_of x k ≡ []) → (k : ℕ) → begun x k ≡ openings (setup_of x.settings) k
begun-empty x empty none k =
    let first : 0 + k ≡ k = omega arith in
    let own : ℕ → Content = λ n. opening (setup_of x.settings n) in
    ap (replay after (start_of x k)) (none k)
    ∙ ap (λ (cs : List Content). slice_index_or cs k (own k)) empty
    ∙ subst (λ n. slice_index_or (opening_contents x.settings) k (own n) ≡ own n) first (opened-at own 0 x.settings.shards k)

pub opened-begun : OpeningsAreInOrder → OpenedIsBegun
opened-begun openings x records tickets empty none count history = record {
  starts = subst (AreInOrder x.settings.shards) (λ i k. sym (begun-empty x empty none k) i) (λ from to _ _. (openings (setup_of x.settings)).starts from to);
  history = history;
  count = count;
  parts = λ k l. ap (λ (b : List Entry). b ++ slice_index_or records k []) (sym (none k));
}

-- ---- a service that was resumed

first-at : (shards : List Start) (k : ℕ) (d : Start) → slice_index_or (opened_with shards) k d.0 ≡ (slice_index_or shards k d).0
first-at [] k d = refl
first-at (g ∷ shards) zero d = refl
first-at (g ∷ shards) (suc k) d = first-at shards k d

second-at : (shards : List Start) (k : ℕ) (d : Start) → slice_index_or (records_in shards) k d.1 ≡ (slice_index_or shards k d).1
second-at [] k d = refl
second-at (g ∷ shards) zero d = refl
second-at (g ∷ shards) (suc k) d = second-at shards k d

pub resumed-begun : ResumedIsBegun
resumed-begun source K shards x passes h k =
    let own : Start = (opening (setup_of K k), []) in
    let start : start_of x k ≡ (slice_index_or shards k own).0 =
    (λ i. slice_index_or (h.starts i) k (opening (setup_of (h.settings i) k))) ∙ first-at shards k own in
    let base : base_of x k ≡ (slice_index_or shards k own).1 = ap (λ (bs : List (List Entry)). slice_index_or bs k []) h.records ∙ second-at shards k own in
    λ i. replay after (start i) (base i)

pub resumed-in-order : ResumedInOrder
resumed-in-order source K shards x passes h ordered =
    subst (λ n. AreInOrder n (begun x)) (sym (ap (λ (k : Settings). k.shards) h.settings))
    (subst (AreInOrder K.shards) (λ i k. sym (resumed-begun source K shards x passes h k) i) ordered)
