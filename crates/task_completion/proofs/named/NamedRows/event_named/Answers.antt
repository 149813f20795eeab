use Rattle.std.proofs.Common.{◌∙◌, sym, ap}
use Rattle.task_completion.specs.Judging.{event_named}
use Rattle.task_completion.proofs.named.NamedRows.event_named.Goals as goal

pub returns-then-is_free : goal.returns-then-is_free
returns-then-is_free c = sym (c.is_free.ensures c.if-is_free.true)

pub returns : goal.returns
returns c = c.event_named.ensures ∙ ap (event_named c.args.name.now) (c.as_slice.ensures.value ∙ c.self.view_is)
