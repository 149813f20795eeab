use Rattle.std.proofs.Common.{◌≡◌, false, refl, sym}
use Rattle.wf_event_values.specs.declared.policies.DeadlineClass.{DeadlineClass}
use Rattle.wf_event_values.specs.declared.policies.DeadlineClass.TheVariants.{Retention}
use Rattle.service_model.specs.TimerTurns.{is_retention}
use Rattle.shard.proofs.turns.is_retention.Goals as goal

-- no other class is that of a retention
other-class : (k : DeadlineClass) → (k ≡ Retention → ⊥) → is_retention k ≡ false
other-class Retention differs = absurd (differs refl)
other-class _ differs = refl

pub returns-in_default : goal.returns-in_default
returns-in_default c = sym (other-class c.args.class c.in_default.not-Retention)
