use Rattle.task_token.proofs.Tokens.{any_names}
use Rattle.task_token.proofs.token.any_token_named.Goals as goal

pub returns-in-Ok : goal.returns-in-Ok
returns-in-Ok c = any_names c.args.text.now c.as_bytes-encoded.result.now c.in-Ok.bytes.items c.deref.result.now c.any_token_of.result c.as_bytes-encoded.ensures.value c.in-Ok.ensures.ok c.deref.ensures.value c.any_token_of.ensures
