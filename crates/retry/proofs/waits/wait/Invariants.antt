use Rattle.std.proofs.Common.{◌≡◌, ◌≤◌, ◌-◌}
use Rattle.std.specs.Fn.{iterate}
use Rattle.service_model.specs.Retry.{next_wait, wait}
use Rattle.retry.proofs.waits.wait.Given as goal

-- the turns that are left make the wait of this one
abbrev pub invariant-loop-turn : goal.invariant-loop-turn
invariant-loop-turn l = (l.wait ≤ l.maximum) × (iterate (next_wait l.fields) (l.attempt - l._turn) l.wait ≡ wait l.fields l.attempt)
