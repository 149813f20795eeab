use Rattle.std.proofs.Common.{arith}
use Rattle.task_token.proofs.Tokens.{any_named_exactly}
use Rattle.task_token.proofs.token.TaskToken.decode.Goals as goal

pub returns-clause-exact : goal.returns-clause-exact
returns-clause-exact c = any_named_exactly c.args.text.now (λ i. omega (arith, c.type_inv.text i))
