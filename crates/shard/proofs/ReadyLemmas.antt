-- what a request does to a shard that stands for a content
use Rattle.std.proofs.Common.{arith, ◌≡◌, ℕ, ◌≤◌, length, sym, ap, ◌∙◌, subst}
use Rattle.std.specs.Prelude.{max}
use Rattle.service_model_types.specs.declared.content.Content.{Content}
use Rattle.service_model_types.specs.declared.request.Operation.{Operation}
use Rattle.service_model_types.specs.declared.request.Request.{Request}
use Rattle.service_model.specs.Growth.{KeepsHistories}
use Rattle.service_model.specs.Outcome.{Outcome}
use Rattle.service_model.specs.Service.{after, issues_of, moment_of, outcome, outcome_of, runs_of}
use Rattle.transfer.specs.Outboxes.{AreIssued}
use Rattle.shard_issued.proofs.DispatchLemmas.{count-is, next-is}
use Rattle.shard_issued.proofs.SendingLemmas.{count-to-is, next-to-is}
use Rattle.shard_store.specs.Fitting.{FitsStep, state_after}
use Rattle.shard_store.specs.ShardView.{ShardView, state}
use Rattle.shard_store.specs.declared.plan.Plan.{Plan}
use Rattle.shard_store.proofs.KeptLemmas.{keeps-after}
use Rattle.shard_store.proofs.StepLemmas.{stands-after}
use Rattle.shard.specs.Deciding.{issues_known, outcome_in}
use Rattle.shard.specs.Standing.{IsReady, StandsFor}
use Rattle.shard_store.specs.Standing.{known}

-- what waits is read and counted as all that was issued
issues-known : (S : Content) → S.dispatched ≤ length S.dispatches → AreIssued S.outgoing → issues_of S ≡ issues_known (known S)
issues-known S low issued i = record {
  next_transfer = λ to. next-to-is S.setup S.outgoing to i;
  acknowledge = λ q. count-to-is S.setup S.outgoing q issued i;
  next_dispatch = next-is S i;
  dispatched = λ number. count-is S number low i;
}

outcome-in : (S : Content) (m : ℕ) (op : Operation) → S.dispatched ≤ length S.dispatches → AreIssued S.outgoing → outcome S m op ≡ outcome_in (known S) m op
unfolding outcome
outcome-in S m op low issued = ap (λ x. outcome_of (runs_of S m) S.accepted x op) (issues-known S low issued)

-- what was prepared on a shard that stands for a content is ready for it
pub prepared : {T : Type 0} (v w : ShardView) (S : Content) (q : Request) (plan : Plan T) → StandsFor v S → state w ≡ state v → FitsStep w plan (max q.at v.last) (outcome_in (state v) (max q.at v.last) q.operation) → IsReady w S q plan
prepared v w S q plan h same fits =
    let m : max q.at v.last ≡ moment_of S q.at = ap (λ s. max q.at s.last) h.says in
    let o : outcome_in (state v) (max q.at v.last) q.operation ≡ outcome S (moment_of S q.at) q.operation =
    ap (λ s. outcome_in s (max q.at s.last) q.operation) h.says ∙ sym (outcome-in S (moment_of S q.at) q.operation h.counted h.issued) in
    let M : ℕ → Type 0 = λ t. FitsStep w plan t (outcome_in (state v) (max q.at v.last) q.operation) in
    let O : Outcome → Type 0 = λ t. FitsStep w plan (moment_of S q.at) t in
    record { stands = record { says = same ∙ h.says; formed = h.formed; counted = h.counted; issued = h.issued; one = h.one; aged = h.aged }; fits = subst O o (subst M m fits) }

-- no moment is before the last one
not-before : (at last : ℕ) → last ≤ max at last
not-before at last = omega arith

-- what is ready leaves a content that keeps of the one before what every content does
pub ready-keeps : {T : Type 0} (v w : ShardView) (S : Content) (q : Request) (plan : Plan T) → IsReady v S q plan → state w ≡ state_after plan (state v) → KeepsHistories S (after S q)
unfolding after
ready-keeps v w S q plan ready did = keeps-after v S (moment_of S q.at) (outcome S (moment_of S q.at) q.operation) plan ready.stands ready.fits (not-before q.at S.last_moment)

-- a shard that did what is ready stands for the content after the request
pub ready-stands : {T : Type 0} (v w : ShardView) (S : Content) (q : Request) (plan : Plan T) → IsReady v S q plan → state w ≡ state_after plan (state v) → StandsFor w (after S q)
unfolding after
ready-stands v w S q plan ready did =
    stands-after v w S (moment_of S q.at) (outcome S (moment_of S q.at) q.operation) plan ready.stands ready.fits (ready-keeps v w S q plan ready did) did
