use Rattle.std.proofs.Common.{◌∙◌, ap, sym, Err}
use Rattle.std.proofs.lemmas.Result.{err_from_is_err_and}
use Rattle.shard_store.specs.ShardView.{state}
use Rattle.shard_snapshot.proofs.LaidLemmas.{end-err, end-ok, laid-none-waits, laid-same, laid-some-waits}
use Rattle.shard_snapshot.proofs.PieceLemmas.{gone-err, gone-ok, gone-waits}
use Rattle.shard_snapshot.proofs.restoring.Restoring.put_gone.Goals as goal

pub returns-in_err-none_waits : goal.returns-in_err-none_waits
returns-in_err-none_waits g c = λ l h.
    let p = err_from_is_err_and c.from_residual.result c.from_residual.ensures.1 in
    rw (p.1, p.2) (λ other.
    let e = c.in_err-none_waits.ensures.err other in
    gone-waits l c.args.count (laid-some-waits c.args.self.now l h e.1) ∙ ap (λ d. Err d) (sym e.0))

pub returns-in_err-end_run : goal.returns-in_err-end_run
returns-in_err-end_run g c = λ l h.
    let p = err_from_is_err_and c.from_residual-in_err-end_run.result c.from_residual-in_err-end_run.ensures.1 in
    let same = laid-same c.args.self.now c.none_waits.new.self l c.in_ok-none_waits.ensures.same c.in_ok-none_waits.ensures.run c.in_ok-none_waits.ensures.request h in
    rw (p.1, p.2) (λ other. gone-err l c.args.count _ (laid-none-waits c.args.self.now l h c.in_ok-none_waits.ensures.ok) (end-err c.none_waits.new.self l _ same (c.in_err-end_run.ensures.store other)))

pub returns : goal.returns
returns g c = λ l h.
    let now = state c.end_run.new.self.store in
    let same = laid-same c.args.self.now c.none_waits.new.self l c.in_ok-none_waits.ensures.same c.in_ok-none_waits.ensures.run c.in_ok-none_waits.ensures.request h in
    gone-ok c.add_gone.new.self l c.args.count now (laid-none-waits c.args.self.now l h c.in_ok-none_waits.ensures.ok) (end-ok c.none_waits.new.self l now same c.in_ok-end_run.ensures.store)
    c.in_ok-add_gone.ensures.store (c.in_ok-add_gone.ensures.run ∙ c.in_ok-end_run.ensures.run) (c.in_ok-add_gone.ensures.request ∙ c.in_ok-end_run.ensures.request)
