use Rattle.std.proofs.Common.{◌≡◌, ap, subst, ◌∙◌}
use Rattle.std.specs.Prelude.{IfOk, filter_map, map}
use Rattle.mutable_state.specs.Activities.{row_said}
use Rattle.mutable_state.specs.Opens.{row_at}
use Rattle.mutable_state.specs.RunView.{RunView}
use Rattle.mutable_state.specs.Whole.{activity_row_in}
use Rattle.mutable_state.proofs.RowLemmas.{read-living}
use Rattle.mutable_state.proofs.run.Run.activities.Goals as goal

pub returns : goal.returns
returns c =
    let es = c.self.inside.history.lists.events in
    let is : filter_map (activity_row_in es) c.rows.result.now ≡ c.args.self.now.state.activities =
    read-living (row_at es) c.rows.result.now ∙ ap (filter_map (row_at es)) c.rows.ensures.alive ∙ ap (λ (v : RunView). v.state.activities) c.self.view_is in
    subst (λ l. IfOk c.activities_among.result (λ found. map row_said found.items ≡ l)) is c.activities_among.ensures
