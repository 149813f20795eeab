use Rattle.std.proofs.Common.{◌≡◌, ap, subst, ◌∙◌}
use Rattle.std.specs.Prelude.{filter_map, IfOk}
use Rattle.mutable_state.specs.Activities.{activity_at, noted_activities}
use Rattle.mutable_state.specs.Rows.{activity_in}
use Rattle.mutable_state.proofs.ActivityLemmas.{noted-are}
use Rattle.mutable_state.proofs.RowLemmas.{read-living}
use Rattle.mutable_state.proofs.run.Run.noted_activities.Goals as goal

pub returns : goal.returns
returns c =
    let a = c.self.inside in
    let is : filter_map (activity_in a.history.lists.events) c.rows.result.now ≡ noted_activities c.args.self.now.state =
    read-living (activity_at a.history.lists.events) c.rows.result.now ∙ ap (filter_map (activity_at a.history.lists.events)) c.rows.ensures.alive
    ∙ noted-are a.history.lists a.request_id a.requests.cancel a.status a.task a.requests.signals a.in_use.rows ∙ ap (λ v. noted_activities v.state) c.self.view_is in
    subst (λ l. IfOk c.noted_among.result (λ noted. noted.items ≡ l)) is c.noted_among.ensures
