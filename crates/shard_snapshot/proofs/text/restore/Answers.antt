use Rattle.std.proofs.Common.{◌∙◌, ◌+◌, ap, arith, option_copied, subst, sym, Ok}
use Rattle.std.proofs.lemmas.Result.{err_from_is_err_and}
use Rattle.shard_snapshot.specs.Laid.{on_ok}
use Rattle.shard_snapshot.specs.SoFar.{IsNextFault}
use Rattle.shard_snapshot.specs.Stages.{IsRestored, Lays, next}
use Rattle.shard_snapshot.proofs.StageLemmas.{end-is, piece-next}
use Rattle.shard_snapshot.proofs.TextLemmas.{leads-more, leads-so-far, next-fault, no-piece, restored, so-far-leads, tail-fault, unfinished-pieces}
use Rattle.shard_snapshot.proofs.text.restore.Goals as goal

pub loop-count-init : goal.loop-count-init
loop-count-init g c = record { so_far = c.in_ok-shard.ensures.so_far; grows = c.in_ok-shard.ensures.grows }

pub returns-in_err-piece-clause-fault : goal.returns-in_err-piece-clause-fault
returns-in_err-piece-clause-fault g c =
    let so_far = c.loop-count.invariant.so_far in
    let h = so-far-leads c.args.setup _ _ c.loop-count.ahead c.loop-count.count c.loop-count.shard so_far in
    let p = err_from_is_err_and c.from_residual-in_err-piece.result c.from_residual-in_err-piece.ensures.1 in
    rw (p.1, p.2) (no-piece c.args.setup _ _ _ c.loop-count.ahead c.loop-count.count (Lays so_far.content) _ _ _ _ h (unfinished-pieces so_far.content) c.loop-count.invariant.grows c.in_err-piece.ensures.fault)

pub returns-in_err-store-clause-fault : goal.returns-in_err-store-clause-fault
returns-in_err-store-clause-fault g c =
    let so_far = c.loop-count.invariant.so_far in
    let l = so_far.content in
    let h = so-far-leads c.args.setup _ _ c.loop-count.ahead c.loop-count.count c.loop-count.shard so_far in
    let end = end-is c.in_ok-piece.piece c.in-Some.end.now (sym c.end_in.ensures ∙ ap (λ o. option_copied o) c.in-Some.is) in
    let p = err_from_is_err_and c.from_residual-in_err-store.result c.from_residual-in_err-store.ensures.1 in
    rw (p.1, p.2) (next-fault c.args.setup _ _ _ c.loop-count.ahead c.piece_behind.new.ahead c.loop-count.count (Lays l) c.in_ok-piece.piece _ _ _ h c.in_ok-piece.ensures.piece
    (subst (λ q. IsNextFault c.loop-count.count (next c.args.setup c.loop-count.count (Lays l) q) c.in_err-store.field-0.0) (sym end) (c.in_err-store.ensures c.args.setup l so_far.is)))

pub returns-in_err-no_more-clause-fault : goal.returns-in_err-no_more-clause-fault
returns-in_err-no_more-clause-fault g c =
    let so_far = c.loop-count.invariant.so_far in
    let l = so_far.content in
    let h = so-far-leads c.args.setup _ _ c.loop-count.ahead c.loop-count.count c.loop-count.shard so_far in
    let end = end-is c.in_ok-piece.piece c.in-Some.end.now (sym c.end_in.ensures ∙ ap (λ o. option_copied o) c.in-Some.is) in
    let (S, is, stands) = c.in_ok-store.ensures c.args.setup l so_far.is in
    let ended = leads-more c.args.setup _ _ _ c.loop-count.ahead c.piece_behind.new.ahead c.loop-count.count (Lays l) (IsRestored S) c.in_ok-piece.piece h c.in_ok-piece.ensures.piece (ap (next c.args.setup c.loop-count.count (Lays l)) end ∙ is) in
    let p = err_from_is_err_and c.from_residual-in_err-no_more.result c.from_residual-in_err-no_more.ensures.1 in
    rw (p.1, p.2) (tail-fault c.args.setup _ _ _ c.piece_behind.new.ahead (c.loop-count.count + 1) S _ c.args.reader.now.failures c.piece_behind.new.reader.failures _ ended
    (let a = c.loop-count.invariant.grows in let b = c.in_ok-piece.ensures.grows in omega (arith, a, b)) c.in_err-no_more.ensures.fault)

pub returns-in-Some-clause-restored : goal.returns-in-Some-clause-restored
returns-in-Some-clause-restored g c =
    let so_far = c.loop-count.invariant.so_far in
    let l = so_far.content in
    let h = so-far-leads c.args.setup _ _ c.loop-count.ahead c.loop-count.count c.loop-count.shard so_far in
    let end = end-is c.in_ok-piece.piece c.in-Some.end.now (sym c.end_in.ensures ∙ ap (λ o. option_copied o) c.in-Some.is) in
    let (S, is, stands) = c.in_ok-store.ensures c.args.setup l so_far.is in
    let ended = leads-more c.args.setup _ _ _ c.loop-count.ahead c.piece_behind.new.ahead c.loop-count.count (Lays l) (IsRestored S) c.in_ok-piece.piece h c.in_ok-piece.ensures.piece (ap (next c.args.setup c.loop-count.count (Lays l)) end ∙ is) in
    restored c.args.setup _ _ _ c.piece_behind.new.ahead (c.loop-count.count + 1) S c.in_ok-store.store ended c.in_ok-no_more.ensures.ends stands

pub returns-in_err-put-clause-fault : goal.returns-in_err-put-clause-fault
returns-in_err-put-clause-fault g c =
    let so_far = c.loop-count.invariant.so_far in
    let l = so_far.content in
    let h = so-far-leads c.args.setup _ _ c.loop-count.ahead c.loop-count.count c.loop-count.shard so_far in
    let none = sym c.end_in.ensures ∙ ap (λ o. option_copied o) c.in_default.is in
    let (d, is, fault) = c.in_err-put.ensures l so_far.is in
    let p = err_from_is_err_and c.from_residual-in_err-put.result c.from_residual-in_err-put.ensures.1 in
    rw (p.1, p.2) (next-fault c.args.setup _ _ _ c.loop-count.ahead c.piece_behind.new.ahead c.loop-count.count (Lays l) c.in_ok-piece.piece _ _ _ h c.in_ok-piece.ensures.piece
    (d, is, λ other. piece-next c.args.setup c.loop-count.count l c.in_ok-piece.piece none ∙ ap (λ r. on_ok r (λ m. Ok (Lays m))) (fault other)))

pub loop-count-preserved : goal.loop-count-preserved
loop-count-preserved g c =
    let so_far = c.loop-count.invariant.so_far in
    let l = so_far.content in
    let h = so-far-leads c.args.setup _ _ c.loop-count.ahead c.loop-count.count c.loop-count.shard so_far in
    let none = sym c.end_in.ensures ∙ ap (λ o. option_copied o) c.in_default.is in
    let (m, is, laid) = c.in_ok-put.ensures l so_far.is in
    record {
      so_far = leads-so-far c.args.setup _ _ c.piece_behind.new.ahead (c.loop-count.count + 1) c.put.new.shard m
          (leads-more c.args.setup _ _ _ c.loop-count.ahead c.piece_behind.new.ahead c.loop-count.count (Lays l) (Lays m) c.in_ok-piece.piece h c.in_ok-piece.ensures.piece
          (piece-next c.args.setup c.loop-count.count l c.in_ok-piece.piece none ∙ ap (λ r. on_ok r (λ m. Ok (Lays m))) is))
          laid;
      grows = (let a = c.loop-count.invariant.grows in let b = c.in_ok-piece.ensures.grows in omega (arith, a, b));
    }
