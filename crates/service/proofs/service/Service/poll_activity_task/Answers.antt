use Rattle.service.proofs.service.Service.poll_activity_task.Goals as goal

pub returns : goal.returns
returns g c = record { own = c.poll.ensures.own; named = c.poll.ensures.named; ok = c.poll.ensures.ok; err = c.poll.ensures.err }
