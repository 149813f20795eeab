use Rattle.std.proofs.Common.{◌∙◌, sym, ap}
use Rattle.std.specs.Prelude.{option_map, unwrap_or}
use Rattle.wf_event_values.specs.declared.policies.DeadlineClass.TheVariants.{Heartbeat, StartToClose}
use Rattle.service_model.specs.Deadlines.{due_after}
use Rattle.timeouts.specs.Firsts.{first_of}
use Rattle.timeouts.specs.Slots.{run_due, lesser_of_two}
use Rattle.timeouts.proofs.FirstLemmas.{first_of-append}
use Rattle.mutable_state.proofs.dues.running_due.Goals as goal

pub returns : goal.returns
returns c =
    let n = c.args.ordinal in
    let id = c.args.event.now.id in
    let beat = due_after (unwrap_or c.args.notes.now.sign_of_life c.args.event.now.at) c.args.activity.now.heartbeat Heartbeat id in
    let end = due_after (unwrap_or c.args.notes.now.taken c.args.event.now.at) c.args.activity.now.start_to_close StartToClose id in
    c.first_of_two.ensures.value
    ∙ ap (λ o. lesser_of_two o (option_map run_due c.due_after-end.result)) (c.due_after-beat.ensures ∙ ap (λ m. first_of n (due_after m c.args.activity.now.heartbeat Heartbeat id)) c.unwrap_or.ensures)
    ∙ ap (lesser_of_two (first_of n beat)) (c.due_after-end.ensures ∙ ap (λ m. first_of n (due_after m c.args.activity.now.start_to_close StartToClose id)) c.unwrap_or-2.ensures)
    ∙ sym (first_of-append n beat end)
