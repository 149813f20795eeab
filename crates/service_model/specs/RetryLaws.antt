-- MEANING: what is so of the waits of every retry policy whose coefficient is a whole factor
use Rattle.std.specs.Prelude.{◌≡◌, ℕ, ◌-◌, ◌*◌, ◌^◌, ◌≤◌, min}
use Rattle.wf_event.specs.declared.payloads.PolicyFields.{PolicyFields}
use Rattle.service_model.specs.Retry.{maximum_of, wait}

-- nothing is ever rounded: the wait is the initial interval times a power of the factor
abbrev pub GrowsByWholeFactors : Type 0
GrowsByWholeFactors = (p : PolicyFields) (f k : ℕ) → p.coefficient ≡ 100 * f → 1 ≤ f
    → wait p k ≡ min (maximum_of p) (p.initial * f ^ (k - 1))
