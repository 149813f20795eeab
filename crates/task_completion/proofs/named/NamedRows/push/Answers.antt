use Rattle.task_completion.proofs.named.NamedRows.push.Goals as goal

pub invariant_of-self : goal.invariant_of-self
invariant_of-self c = c.note_name.ensures.kept c.self.inside.rows.items c.self.invariant
