use Rattle.std.proofs.Common.{◌≡◌, take, map}
use Rattle.script_settings.proofs.queues.names_of.Given as goal

-- the names so far are the parts so far
abbrev pub invariant-loop-part : goal.invariant-loop-part
invariant-loop-part l = l.names.items ≡ map (λ part. part.now) (take l.part-index l.parts)
