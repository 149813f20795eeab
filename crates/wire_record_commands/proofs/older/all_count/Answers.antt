use Rattle.std.proofs.Common.{◌≡◌, ◌∙◌, ◌&&◌, ap, ap₂, sym, arith, take, get_or}
use Rattle.wire_record_commands.specs.Older.{all_count, counts_for}
use Rattle.wire_record_commands.proofs.OlderBack.{count_next}
use Rattle.wire_record_commands.proofs.older.all_count.Goals as goal

pub loop-command-preserved : goal.loop-command-preserved
loop-command-preserved c =
    let fs = c.args.factors.now in
    let cs = c.args.commands.now in
    let i = c.loop-command.command-index in
    let d = c.command-item.result in
    let at : c.factor_at.result ≡ get_or fs i 0 = c.factor_at.ensures ∙ ap (λ k. get_or fs k 0) c.loop-command.invariant.place in
    record {
      all = c.and_counts-all.ensures ∙ ap₂ (λ a e. a && counts_for e c.factor_at.result) c.loop-command.invariant.all c.command-item.is
          ∙ ap (λ n. all_count fs (take i cs) && counts_for (get_or cs i d) n) at ∙ sym (count_next fs cs i d c.loop-command-test.true);
      place = omega (arith, c.loop-command.invariant.place);
    }
