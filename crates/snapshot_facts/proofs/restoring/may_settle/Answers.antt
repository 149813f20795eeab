use Rattle.std.proofs.Common.{sym, ◌∙◌}
use Rattle.wf_event.specs.Role.{role, settles}
use Rattle.snapshot_facts.proofs.RowLemmas.{cancels-used, settles-pending}
use Rattle.snapshot_facts.proofs.restoring.may_settle.Goals as goal

pub returns-then-is_timer_cancel : goal.returns-then-is_timer_cancel
returns-then-is_timer_cancel g c =
    let a = c.args.attributes.now in
    c.in_ok-is_used.ensures ∙ cancels-used (role a) (settles a) c.in-Some.opener c.args.run.now.state (sym c.in-Some.ensures) (sym c.if-is_timer_cancel.ensures)

pub returns : goal.returns
returns g c =
    let a = c.args.attributes.now in
    c.in_ok-is_pending.ensures ∙ settles-pending (role a) (settles a) c.in-Some.opener c.args.run.now.state (sym c.in-Some.ensures) (sym c.if-is_timer_cancel.ensures)
