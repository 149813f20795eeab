-- what a step leaves of the histories that were there
use Rattle.std.proofs.Common.{◌≡◌, ℕ, ◌+◌, ◌-◌, ◌++◌, [], ap, append-nil, arith, refl, sym, ◌∙◌, subst, Option, Some, None, slice_index_or, ◌≤◌}
use Rattle.std.specs.Prelude.{map, slice_get}
use Rattle.service_model_types.specs.declared.content.Content.{Content}
use Rattle.service_model.specs.Aging.{AreAged, ClosesAt, IsOldestRun}
use Rattle.service_model.specs.Growth.{HasOneOpen, KeepsHistories}
use Rattle.service_model.specs.Outcome.{Outcome, Added}
use Rattle.service_model.specs.RunState.{id_of, is_open, state_of}
use Rattle.service_model.specs.Service.{content_after, entries, with_added, with_removed}
use Rattle.service_model.proofs.GrowthLemmas.{IsFree, MayAdd, MayBecome, MayMake, MayTake, keeps-step}
use Rattle.service_model.proofs.ListLemmas.{map-get}
use Rattle.mutable_state.specs.declared.change.StepFacts.{StepFacts}
use Rattle.mutable_state.specs.Steps.{FitStep, IsLater}
use Rattle.mutable_state.proofs.ClosingLemmas.{closes-after, closes-begun}
use Rattle.mutable_state.proofs.GrowthLemmas.{beginning-stays, step-begins}
use Rattle.shard_steps.specs.Starts.{first_facts}
use Rattle.shard_store.specs.ShardView.{ShardState, ShardView, states}
use Rattle.shard_store.specs.Fitting.{FitsAdded, FitsChange, FitsCreated, FitsStep, FitsTaken, IsFreeFor, added_of, created_of, runs_added, state_at, taken_of}
use Rattle.shard_store.specs.Open.{HasClosed, IsOneOpen}
use Rattle.shard_store.specs.Standing.{StandsFor}
use Rattle.shard_store.specs.declared.plan.Change.{Change}
use Rattle.shard_store.specs.declared.plan.MoreOf.{MoreOf}
use Rattle.shard_store.specs.declared.plan.NewRun.{NewRun}
use Rattle.shard_store.specs.declared.plan.Plan.{Plan}
use Rattle.shard_store.proofs.OpenLemmas.{of-journals}
use Rattle.shard_store.proofs.StepLemmas.{DoneRuns, added-done, added-stands, created-stands, no-facts}

-- what a step adds to an older run may be added
added-may : (S : Content) (v : ShardView) (moment : ℕ) (m : Option MoreOf) (o : Option Added) → StandsFor v S → FitsAdded v moment m o → MayAdd S moment o
added-may S v moment None o h none = subst (MayAdd S moment) (sym none) tt
added-may S v moment (Some m) o h (facts, added, fits) =
    let i = m.index in
    let s = state_at (states v.runs) i in
    let J = slice_index_or S.runs i [] in
    let more = entries (S.steps + 1) moment 0 facts in
    let stands = added-stands S v moment m facts h fits in
    let may : FitStep moment s facts = subst (λ (c : StepFacts). FitStep c.moment s c.facts) fits.change fits.has_room.fits in
    let begins = step-begins moment facts s in
    let P : ℕ → Type 0 = λ k. MayBecome moment (slice_index_or S.runs k []) (slice_index_or S.runs k [] ++ more) in
    let place : m.index + 1 - 1 ≡ i = omega arith in
    subst (MayAdd S moment) (sym added) (subst P (sym place) (record {
      shows = (begins.more, ap (λ t. t.shown) stands.behind.says ∙ begins.is ∙ ap (λ t. t.shown ++ begins.more) (sym stands.before));
      closed = λ over. ap (λ fs. J ++ entries (S.steps + 1) moment 0 fs) (no-facts moment s facts (ap is_open (sym stands.before) ∙ over) may) ∙ append-nil J;
      began = ap (λ t. t.beginning) stands.behind.says ∙ beginning-stays moment facts s ∙ ap (λ t. t.beginning) (sym stands.before);
      closes = λ opened over. subst (ClosesAt moment) (sym stands.behind.says)
          (closes-after S.steps moment J facts s stands.stood may (ap is_open (sym stands.before) ∙ opened) (ap is_open (sym stands.behind.says) ∙ over));
    }))

-- where a shard stands for a content, of two runs of one workflow ID the older has closed
pub one-open : (v : ShardView) (S : Content) → StandsFor v S → IsOneOpen (states v.runs)
one-open v S h = subst (λ l. IsOneOpen l) (sym (ap (λ s. s.runs) h.says)) (of-journals S h.one)

-- and closed no later
pub are-aged : (v : ShardView) (S : Content) → StandsFor v S → AreAged v.last (states v.runs)
are-aged v S h = subst (λ (s : ShardState). AreAged s.last s.runs) (sym h.says) h.aged

-- a run that it deletes may go
taken-may : {T : Type 0} (S : Content) (v : ShardView) (moment : ℕ) (c : Change T) (i : Option ℕ) (o : Outcome) → StandsFor v S → FitsAdded v moment (added_of c) o.added → FitsTaken v c i o.removed →
    MayTake (with_added (S.steps + 1) moment o.added S.runs) o.removed
taken-may S v moment c None o h added none = subst (MayTake (with_added (S.steps + 1) moment o.added S.runs)) (sym none) tt
taken-may {T} S v moment c (Some i) o h added (removed, may, alone) =
    let none : o.added ≡ None = subst (λ (a : Option MoreOf). FitsAdded v moment a o.added) (ap added_of alone) added in
    let place : i + 1 - 1 ≡ i = omega arith in
    let before : map state_of S.runs ≡ states v.runs = sym (ap (λ s. s.runs) h.says) in
    let oldest : IsOldestRun (states v.runs) i = may.oldest (one-open v S h) (are-aged v S h) in
    subst (MayTake (with_added (S.steps + 1) moment o.added S.runs)) (sym removed)
    (subst (λ (a : Option Added). IsOldestRun (map state_of (with_added (S.steps + 1) moment a S.runs)) (i + 1 - 1)) (sym none)
    (subst (λ k. IsOldestRun (map state_of S.runs) k) (sym place) (subst (λ l. IsOldestRun l i) (sym before) oldest)))

-- a step that makes a run deletes none
none-taken : {T : Type 0} (v : ShardView) (c : Change T) (n : NewRun T) (i o : Option ℕ) → created_of c ≡ Some n → FitsTaken v c i o → o ≡ None
none-taken v c n None o is none = none
none-taken {T} v c n (Some i) o is (removed, may, alone) = let clash = sym is ∙ ap created_of alone in absurd (cc)

-- and a run that it makes may be made
created-may : {T : Type 0} (S : Content) (v : ShardView) (moment : ℕ) (c : Change T) (n : Option (NewRun T)) (o : Outcome) → StandsFor v S → FitsChange v moment c o → created_of c ≡ n → FitsCreated v moment n o.created →
    MayMake S moment (with_removed o.removed (with_added (S.steps + 1) moment o.added S.runs)) o.created
created-may S v moment c None o h fits is none = subst (MayMake S moment (with_removed o.removed (with_added (S.steps + 1) moment o.added S.runs))) (sym none) tt
created-may S v moment c (Some n) o h fits is (b, created, made) =
    let runs = with_added (S.steps + 1) moment o.added S.runs in
    let X = entries (S.steps + 1) moment 0 (first_facts b) in
    let made_of = created-stands S v moment n b made in
    let begun : state_of X ≡ n.run.state = made_of.says ∙ sym made.made in
    let done : DoneRuns S runs (runs_added (added_of c) (states v.runs)) = added-done S v moment (added_of c) o.added h fits.added in
    let before : map state_of S.runs ≡ states v.runs = sym (ap (λ s. s.runs) h.says) in
    let free : HasOneOpen S → HasClosed (runs_added (added_of c) (states v.runs)) (id_of n.run.state) = λ one.
    let all = fits.free (subst (λ l. IsOneOpen l) before (of-journals S one)) in
    subst (λ k. IsFreeFor k (runs_added (added_of c) (states v.runs))) is all in
    let stay : with_removed o.removed runs ≡ runs = ap (λ r. with_removed r runs) (none-taken v c n (taken_of c) o.removed is fits.taken) in
    subst (MayMake S moment (with_removed o.removed runs)) (sym created) (record {
      free = λ one. subst (λ l. IsFree l X) (sym stay) (record {
        each = λ k J at same. (free one).each k (state_of J) (ap (λ l. slice_get l k) (sym done.says) ∙ map-get state_of runs k J at) (same ∙ ap id_of begun);
      });
      closes = λ over. subst (ClosesAt moment) (sym made_of.says) (closes-begun moment b.request_id b.started b.facts (made.begins.fits IsLater) (ap is_open (sym made_of.says) ∙ over));
    })

-- each run that was there shows first what it showed before, and has not changed where it had closed
pub keeps-after : {T : Type 0} (v : ShardView) (S : Content) (m : ℕ) (o : Outcome) (plan : Plan T) → StandsFor v S → FitsStep v plan m o → S.last_moment ≤ m → KeepsHistories S (content_after S m o)
keeps-after v S m o plan stands fits later = keeps-step S m o (record {
  later = later;
  adds = added-may S v m (added_of plan.change) o.added stands fits.change.added;
  takes = taken-may S v m plan.change (taken_of plan.change) o stands fits.change.added fits.change.taken;
  makes = created-may S v m plan.change (created_of plan.change) o stands fits.change refl fits.change.created;
})
