use Rattle.wire_record_commands.proofs.commands.put_rows.Goals as goal

pub returns-in-CancelTimer : goal.returns-in-CancelTimer
returns-in-CancelTimer c = rw c.in-CancelTimer.is (rw c.as_str.ensures.value at c.put_one.ensures)

pub returns-in-CompleteWorkflowExecution : goal.returns-in-CompleteWorkflowExecution
returns-in-CompleteWorkflowExecution c = rw c.in-CompleteWorkflowExecution.is (rw c.as_str-in-CompleteWorkflowExecution.ensures.value at c.put_one-in-CompleteWorkflowExecution.ensures)

pub returns-in-FailWorkflowExecution : goal.returns-in-FailWorkflowExecution
returns-in-FailWorkflowExecution c = rw c.in-FailWorkflowExecution.is (rw c.as_str-in-FailWorkflowExecution.ensures.value at c.put_one-in-FailWorkflowExecution.ensures)

pub returns-in-CancelWorkflowExecution : goal.returns-in-CancelWorkflowExecution
returns-in-CancelWorkflowExecution c = rw c.in-CancelWorkflowExecution.is (rw c.as_str-in-CancelWorkflowExecution.ensures.value at c.put_one-in-CancelWorkflowExecution.ensures)
