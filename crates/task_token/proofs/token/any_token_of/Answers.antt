use Rattle.std.proofs.Common.{sym}
use Rattle.task_token.proofs.Tokens.{no_token}
use Rattle.task_token.proofs.token.any_token_of.Goals as goal

pub returns-then-bytes-ne24 : goal.returns-then-bytes-ne24
returns-then-bytes-ne24 c = sym (no_token c.args.bytes.now _ c.if-bytes-ne24.true)
