use Rattle.wire_replies.proofs.answers.put_answer.Goals as goal

pub returns-in-CancelRequested : goal.returns-in-CancelRequested
returns-in-CancelRequested c = rw c.in-CancelRequested.is c.put_ok-in-CancelRequested.ensures

pub returns-in-Described : goal.returns-in-Described
returns-in-Described c = rw c.in-Described.is c.put_description.ensures
