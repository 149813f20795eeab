-- PROOF: all that is kept of a run, for who makes it again elsewhere
use Rattle.std.specs.Prelude.{List, map}
use Rattle.std.specs.Borrow.{Bor}
use Rattle.wf_event.specs.declared.event.Event.{Event}
use Rattle.service_model.specs.RunState.{ActivityRow}
use Rattle.std.specs.Prelude.{Option}
use Rattle.mutable_state.specs.declared.rows.Row.{Row}
use Rattle.mutable_state.specs.Opens.{row_at}
use Rattle.mutable_state.specs.Rows.{read_in}

-- what is lent
abbrev pub copied : {T : Type 0} → List (Bor T) → List T
copied lent = map (λ b. b.now) lent

-- the row of what is here, where that is an activity
abbrev pub activity_row_in : List Event → Row → Option ActivityRow
activity_row_in es r = read_in (row_at es) r
