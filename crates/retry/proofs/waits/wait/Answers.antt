use Rattle.std.proofs.Common.{◌∙◌, sym, arith}
use Rattle.retry.proofs.WaitLemmas.{begun, next, still, done}
use Rattle.retry.proofs.waits.wait.Goals as goal

pub loop-turn-init : goal.loop-turn-init
loop-turn-init c = (omega (arith, c.min-wait.ensures), begun _ _ _ _ c.requires.maximum c.min-wait.ensures)

pub loop-turn-preserved : goal.loop-turn-preserved
loop-turn-preserved c =
    (omega (arith, c.next_wait-next.ensures, c.requires.maximum), next _ _ _ _ _ c.loop-turn-test.true c.next_wait-next.ensures c.loop-turn.invariant.1)

pub returns-then-next-wait-clause-value : goal.returns-then-next-wait-clause-value
returns-then-next-wait-clause-value c =
    still _ _ _ _ (sym c.next_wait-next.ensures ∙ c.if-next-wait.true) c.loop-turn.invariant.1

pub returns-clause-value : goal.returns-clause-value
returns-clause-value c = done _ _ _ _ (omega (arith, c.loop-turn-test.false)) c.loop-turn.invariant.1
