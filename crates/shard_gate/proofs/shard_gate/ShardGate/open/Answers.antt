use Rattle.std.proofs.Common.{ap, arith, sym, subst, ◌∙◌, length}
use Rattle.std.proofs.lemmas.List.{length-map}
use Rattle.shard_gate.specs.Opening.{Opens}
use Rattle.shard_gate.specs.Starts.{starting, starting_empty}
use Rattle.shard_gate.proofs.StepLemmas.{weaker}
use Rattle.shard_gate.proofs.shard_gate.ShardGate.open.Goals as goal

pub resume-requires-clause-slots : goal.resume-requires-clause-slots
resume-requires-clause-slots g c =
    let made = c.in_ok-shards in
    let count = sym (length-map made.shards.items (starting g.S.Object.opening)) ∙ ap length made.ensures.starts ∙ length-map c.args.given.items starting_empty in
    (omega (arith, count, c.requires.slots.0), omega (arith, count, c.requires.slots.1))

pub returns : goal.returns
returns g c =
    weaker c.resume.result _ _
    (λ r opened. subst (λ given. Opens c.args.source given c.args.passes r.gate r.passes.items r.waiting.items) c.in_ok-shards.ensures.starts opened)
    c.resume.ensures
