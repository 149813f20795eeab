-- what is kept, waits and is sent where a run is deleted
use Rattle.std.proofs.Common.{◌≡◌, ℕ, ◌+◌, ◌<◌, List, [], length, refl, sym, ◌∙◌, slice_set, Option, None}
use Rattle.service_model_types.specs.declared.content.Setup.{Setup}
use Rattle.service_model.specs.Deadlines.{dues}
use Rattle.service_model.specs.RunState.{RunState, beginning, no_run}
use Rattle.service_model.specs.Shown.{numbered, put_all}
use Rattle.service_model.specs.TimerTurns.{least}
use Rattle.service_model.specs.Waiting.{waiting_of}
use Rattle.service_model.specs.Windows.{placed}
use Rattle.timeouts.specs.Firsts.{first_due}
use Rattle.timeouts.specs.declared.due.Due.{Due}
use Rattle.shard_issued.specs.Issuing.{DispatchesView, all_waiting}
use Rattle.shard_issued.specs.Outstanding.{AreCaughtUp, HasFirsts, HasShown, IsCaughtUp, outstanding}
use Rattle.shard_issued.specs.Sending.{TransfersView, all_outgoing}
use Rattle.shard_issued.specs.declared.changed.Changed.{Changed}
use Rattle.shard_issued.proofs.DispatchLemmas.{all-looked-up}
use Rattle.shard_issued.proofs.EachLemmas.{each-set}
use Rattle.shard_issued.proofs.SendingLemmas.{all-sent}

-- no run has a deadline, shows an event, or has a task that waits
pub no-due : (retention n : ℕ) → first_due retention n no_run ≡ None
unfolding no_run beginning dues least
no-due retention n = refl

pub no-event : length no_run.shown ≡ 0
unfolding no_run placed put_all numbered
no-event = refl

pub no-task : (setup : Setup) (run : ℕ) → waiting_of setup run no_run ≡ []
unfolding no_run placed put_all numbered
no-task setup run = refl

-- of no run the first deadline is none
pub firsts-taken : (retention : ℕ) (slots : List (Option Due)) (changed : Changed) (runs : List RunState) (n : ℕ) → n < length runs → HasFirsts retention slots changed runs → HasFirsts retention (slice_set slots n None) changed (slice_set runs n no_run)
firsts-taken retention slots changed runs n low h = each-set slots changed runs n no_run None low (sym (no-due retention (n + 1))) h

-- and it shows no event
pub shown-taken : (counts : List ℕ) (changed : Changed) (runs : List RunState) (n : ℕ) → n < length runs → HasShown counts changed runs → HasShown (slice_set counts n 0) changed (slice_set runs n no_run)
shown-taken counts changed runs n low h = each-set counts changed runs n no_run 0 low (sym no-event) h

-- where all was looked up, what waits and what was sent hangs on no run
pub taken-waits : (setup : Setup) (d d' : DispatchesView) (changed : Changed) (runs now : List RunState) → AreCaughtUp changed → d'.waiting ≡ d.waiting → all_waiting setup d' changed now ≡ all_waiting setup d changed runs
taken-waits setup d d' changed runs now caught_up same = all-looked-up setup d' changed now caught_up ∙ same ∙ sym (all-looked-up setup d changed runs caught_up)

pub taken-sends : (setup : Setup) (t : TransfersView) (changed : Changed) (runs now : List RunState) → IsCaughtUp (outstanding changed t) → all_outgoing setup t now ≡ all_outgoing setup t runs
taken-sends setup t changed runs now caught_up = all-sent setup t now caught_up.unsent caught_up.answer ∙ sym (all-sent setup t runs caught_up.unsent caught_up.answer)
