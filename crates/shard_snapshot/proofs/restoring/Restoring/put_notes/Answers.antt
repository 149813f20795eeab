use Rattle.std.proofs.Common.{◌≡◌, ◌∙◌, ap, arith, sym}
use Rattle.std.proofs.lemmas.Result.{err_from_is_err_and}
use Rattle.std.specs.Prelude.{◌||◌, ◌==◌, is_some}
use Rattle.shard_snapshot.specs.Laid.{noted_times}
use Rattle.shard_snapshot.specs.Restored.{RestoringView}
use Rattle.shard_snapshot.proofs.PieceLemmas.{alike, differ, laid-by, no-note, note-err, note-is, noted-err, noted-more}
use Rattle.shard_snapshot.proofs.restoring.Restoring.put_notes.Goals as goal
use Rattle.shard_snapshot.proofs.restoring.Restoring.put_notes.Goals.{then-is_some-via-then-is_some, then-is_some-via-else-is_some+then-notes-eq0}

pub returns-then-is_some : goal.returns-then-is_some
returns-then-is_some g c = λ l h other.
    let n = c.args.notes.now in
    let asked = ap (λ (r : RestoringView). is_some r.request) (sym c.self.view_is) ∙ sym c.is_some.ensures in
    note-err c.args.self.now l n h (elim c.then-is_some.branch [
      | then-is_some-via-then-is_some w ↦ ap (λ b. b || (n.times == 0)) (asked ∙ w.if-is_some.true)
      | then-is_some-via-else-is_some+then-notes-eq0 w ↦ ap (λ b. b || (n.times == 0)) (asked ∙ w.if-is_some.false) ∙ alike n.times 0 w.if-notes-eq0.true
    ])

pub returns-in_err-add_note : goal.returns-in_err-add_note
returns-in_err-add_note g c = λ l h.
    let n = c.args.notes.now in
    let none = no-note c.args.self.now n (ap (λ (r : RestoringView). is_some r.request) (sym c.self.view_is) ∙ sym c.is_some.ensures ∙ c.if-is_some.false) (differ n.times 0 c.if-notes-eq0.false) in
    let (m, is, laid) = c.loop-time.invariant.1 l h in
    let p = err_from_is_err_and c.from_residual.result c.from_residual.ensures.1 in
    rw (p.1, p.2) (λ other. note-is c.args.self.now l n h none ∙ noted-err c.loop-time._time n l m _ (c.loop-time-test.true) is (c.in_err-add_note.ensures.laid m laid other))

pub loop-time-preserved : goal.loop-time-preserved
loop-time-preserved g c = (
  c.in_ok-add_note.ensures.request,
  λ l h.
      let n = c.args.notes.now in
      let (m, is, laid) = c.loop-time.invariant.1 l h in
      laid-by c.add_note.new.self _ _ (noted-more c.loop-time._time n l m is) (c.in_ok-add_note.ensures.laid m laid),
)

pub returns : goal.returns
returns g c = λ l h.
    let n = c.args.notes.now in
    let none = no-note c.args.self.now n (ap (λ (r : RestoringView). is_some r.request) (sym c.self.view_is) ∙ sym c.is_some.ensures ∙ c.if-is_some.false) (differ n.times 0 c.if-notes-eq0.false) in
    laid-by c.loop-time.self _ _ (note-is c.args.self.now l n h none)
    (let (m, is, laid) = c.loop-time.invariant.1 l h in let e : n.times ≡ c.loop-time._time = omega arith in (m, ap (λ k. noted_times k n l) e ∙ is, laid))
