use Rattle.std.proofs.Common.{arith}
use Rattle.wire_counted.proofs.Known.{write_step, Appends-keeps, beginning_of_some}
use Rattle.wire_counted.proofs.whole.write_whole.Goals as goal
use Rattle.wire_counted.proofs.whole.write_whole.Goals.{in-Ok, in-Err+else-ne}

pub loop-preserved : goal.loop-preserved
loop-preserved g c = elim c.match-write.branch [
  | in-Ok w ↦
      let bound = w.in-Ok.ensures.bound in
      record {
        within = omega (arith, w.done-is, w.in-Ok.n-test, bound);
        written = write_step _ (g.W.Write.contents c.loop.writer.inner) _ c.args.bytes.now c.loop.done w.in-Ok.n c.match-write.done w.done-is c.loop.invariant.written w.in-Ok.ensures.bytes;
        grows = omega (arith, w.in-Ok.n-test, w.in-Ok.ensures.some);
        failed = λ h. omega (arith, c.loop.invariant.failed (omega (arith, w.done-is, w.in-Ok.n-test, h)), w.in-Ok.n-test, w.in-Ok.ensures.some);
      }
  | in-Err+else-ne w ↦
      record {
        within = omega (arith, w.done-is);
        written = rw w.done-is (Appends-keeps _ (g.W.Write.contents c.loop.writer.inner) _ _ c.loop.invariant.written w.in-Err.ensures.bytes);
        grows = omega (arith, w.in-Err.ensures.err);
        failed = λ _. omega (arith, w.in-Err.ensures.err);
      }
]

pub returns-in-Ok-eq0-clause-err : goal.returns-in-Ok-eq0-clause-err
returns-in-Ok-eq0-clause-err g c =
    let nothing = write_step _ (g.W.Write.contents c.loop.writer.inner) _ c.args.bytes.now c.loop.done c.in-Ok-eq0.field-0 c.loop.done (omega (arith, c.in-Ok-eq0.field-0-test)) c.loop.invariant.written c.in-Ok-eq0.ensures.bytes in
    beginning_of_some _ _ _ c.loop.done nothing

pub returns-then-ne-clause-err : goal.returns-then-ne-clause-err
returns-then-ne-clause-err g c = beginning_of_some _ _ _ c.loop.done (Appends-keeps _ (g.W.Write.contents c.loop.writer.inner) _ _ c.loop.invariant.written c.in-Err.ensures.bytes)

pub returns-clause-err : goal.returns-clause-err
returns-clause-err g c = beginning_of_some _ _ _ c.loop.done c.loop.invariant.written
