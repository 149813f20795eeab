use Rattle.script.proofs.Steps.{on_any_err}
use Rattle.script.proofs.script.Script.close.Goals as goal

pub print_trace-requires : goal.print_trace-requires
print_trace-requires g c = λ t. (c.close-closed.ensures.traced (c.requires t)).ticketed

pub returns-clause-written : goal.returns-clause-written
returns-clause-written g c = c.in_ok-print_trace.ensures.ok _ (λ t. (c.close-closed.ensures.traced (c.requires t)).merged)

pub returns-in_err-print_trace-clause-begun : goal.returns-in_err-print_trace-clause-begun
returns-in_err-print_trace-clause-begun g c =
    on_any_err c.from_residual.result _ (c.in_err-print_trace.ensures.err _ (λ t. (c.close-closed.ensures.traced (c.requires t)).merged))
