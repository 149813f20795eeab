use Rattle.std.proofs.Common.{◌++◌, ◌∙◌, sym, ap, append_assoc}
use Rattle.std.proofs.lemmas.Result.{IfErr-weaker}
use Rattle.wire_counted.proofs.Known.{Consumes-then}
use Rattle.wire_lines.specs.Pending.{has_feed}
use Rattle.snapshot_pieces.proofs.lines.next_piece.Goals as goal

pub returns-then-branch-clause-fault : goal.returns-then-branch-clause-fault
returns-then-branch-clause-fault g c =
    let so_far = c.loop.invariant in
    let more = c.in_ok-read_more.ensures.more in
    let done = c.in_ok-read_more.ensures.end c.if-branch.true in
    let none = rw c.in_default.is at c.in_ok-piece.ensures.none in
    let all = sym (append_assoc c.args.ahead.now so_far.chunk more.chunk) ∙ ap (λ t. t ++ more.chunk) (sym so_far.joined) ∙ ap (λ t. t ++ more.chunk) (sym none.0) ∙ sym more.joined in
    IfErr-weaker c.end.result _ _ (λ e two. rw two.0 (record {
      chunk = so_far.chunk ++ more.chunk;
      read = Consumes-then _ _ _ _ _ so_far.read more.read;
      at_end = done.0;
      no_line = ap has_feed (all ∙ done.1) ∙ none.1;
      some = λ is. two.1 (sym all ∙ is);
    })) c.end.ensures.cut
