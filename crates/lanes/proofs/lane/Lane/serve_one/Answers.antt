use Rattle.lanes.proofs.lane.Lane.serve_one.Goals as goal

pub returns-clause-served : goal.returns-clause-served
returns-clause-served g c = record { reply = c.in_ok-reply.reply; served = c.in_ok-reply.ensures.served; wrote = c.in_ok-add.ensures.wrote }
