use Rattle.std.proofs.Common.{[], ap, arith, inl, inr, sym, ◌∙◌}
use Rattle.std.specs.Prelude.{slice_get}
use Rattle.std.proofs.lemmas.Result.{err_from_is_err_and}
use Rattle.wire_counted.proofs.Known.{Consumes-none}
use Rattle.script.proofs.EndLemmas.{fault_at_end, fault_in_turn}
use Rattle.lanes.proofs.LaneLemmas.{all-there, own-of, passes-own}
use Rattle.script.proofs.Steps.{on_any_err}
use Rattle.lanes.proofs.BegunLemmas.{ended-begun, ended-same, nothing-read}
use Rattle.lanes.proofs.ToldLemmas.{told-nothing}
use Rattle.lanes.proofs.run.run_lanes.Goals as goal

pub loop-init : goal.loop-init
loop-init g c = record {
  room = omega (arith, c.in_ok-buffer.ensures.len);
  own = own-of (g.D.Door.admits c.args.door.now) c.args.passes.items c.in_ok-script.script.lanes.items c.in_ok-script.ensures.passes (all-there (g.D.Door.admits c.args.door.now) c.args.passes.items c.requires);
  progress = record { text = []; read = Consumes-none _; told = told-nothing _ _ _ c.in_ok-script.ensures };
  reads = omega arith;
  writes = omega arith;
}

pub returns-in_err-turn-clause-fault : goal.returns-in_err-turn-clause-fault
returns-in_err-turn-clause-fault g c =
    let p = err_from_is_err_and c.from_residual-in_err-turn.result c.from_residual-in_err-turn.ensures.1 in
    rw (p.1, p.2) (fault_in_turn _ _ c.loop.reader.failures _ _ c.loop.writer.failures _ c.loop.invariant.reads c.loop.invariant.writes c.in_err-turn.ensures.fault)

pub returns-in_err-finish-clause-fault : goal.returns-in_err-finish-clause-fault
returns-in_err-finish-clause-fault g c =
    let p = err_from_is_err_and c.from_residual-in_err-finish.result c.from_residual-in_err-finish.ensures.1 in
    rw (p.1, p.2) (fault_at_end _ _ _ _ c.turn.new.writer.failures _ (omega (arith, c.loop.invariant.writes, c.turn.ensures.write_grows)) c.in_err-finish.ensures.fault)

pub returns-then-branch-clause-ran : goal.returns-then-branch-clause-ran
returns-then-branch-clause-ran g c =
    let p = c.in_ok-turn.ensures.progress _ _ _ c.loop.invariant.progress in
    record {
      text = p.text;
      read = p.read;
      at_end = c.in_ok-turn.ensures.end c.if-branch.true;
      told = ended-same c.in_ok-passes.ensures (c.in_ok-finish.ensures.told _ p.text _ p.told);
    }

pub returns-then-branch-clause-own : goal.returns-then-branch-clause-own
returns-then-branch-clause-own g c = λ k p there. passes-own (g.D.Door.admits c.args.door.now) c.finish.new.self.lanes.items c.finish.ensures.own k p (ap (λ t. slice_get t k) (sym c.in_ok-passes.ensures) ∙ there)

pub returns-in_err-passes-clause-halted : goal.returns-in_err-passes-clause-halted
returns-in_err-passes-clause-halted g c =
    let p = c.in_ok-turn.ensures.progress _ _ _ c.loop.invariant.progress in
    on_any_err c.from_residual-in_err-passes.result _ (inr (record {
      text = p.text;
      read = p.read;
      at_end = c.in_ok-turn.ensures.end c.if-branch.true;
      begun = ended-begun p.text _ _ _ _ (c.in_ok-finish.ensures.told _ p.text _ p.told);
    }))

pub loop-preserved : goal.loop-preserved
loop-preserved g c = record {
  room = omega (arith, c.loop.invariant.room);
  own = c.turn.ensures.own;
  progress = c.in_ok-turn.ensures.progress _ _ _ c.loop.invariant.progress;
  reads = omega (arith, c.loop.invariant.reads, c.turn.ensures.read_grows);
  writes = omega (arith, c.loop.invariant.writes, c.turn.ensures.write_grows);
}

pub returns-in_err-script-clause-halted : goal.returns-in_err-script-clause-halted
returns-in_err-script-clause-halted g c = on_any_err c.from_residual.result _ (nothing-read _ _)

pub returns-in_err-buffer-clause-halted : goal.returns-in_err-buffer-clause-halted
returns-in_err-buffer-clause-halted g c = on_any_err c.from_residual-in_err-buffer.result _ (nothing-read _ _)

pub returns-in_err-turn-clause-halted : goal.returns-in_err-turn-clause-halted
returns-in_err-turn-clause-halted g c = on_any_err c.from_residual-in_err-turn.result _ (inl (c.in_err-turn.ensures.broke _ _ _ c.loop.invariant.progress))

pub returns-in_err-finish-clause-halted : goal.returns-in_err-finish-clause-halted
returns-in_err-finish-clause-halted g c =
    let p = c.in_ok-turn.ensures.progress _ _ _ c.loop.invariant.progress in
    on_any_err c.from_residual-in_err-finish.result _ (inr (record {
      text = p.text;
      read = p.read;
      at_end = c.in_ok-turn.ensures.end c.if-branch.true;
      begun = c.in_err-finish.ensures.begun _ p.text _ p.told;
    }))

pub returns-in_err-readers-clause-halted : goal.returns-in_err-readers-clause-halted
returns-in_err-readers-clause-halted g c = on_any_err c.from_residual-in_err-readers.result _ (nothing-read _ _)
