use Rattle.std.proofs.Common.{◌<◌, ◌≡◌, subst, Some}
use Rattle.service_model_types.specs.declared.answer.NumberedDispatch.{NumberedDispatch}
use Rattle.service_model_types.specs.Replies.{Reply, dispatch_of}
use Rattle.service.specs.Services.{known_by}
use Rattle.service.specs.Turns.{AnsweredOn}
use Rattle.service.proofs.ServedLemmas.{weaker}
use Rattle.service.proofs.TurnLemmas.{next-below}
use Rattle.service.proofs.service.Service.next_dispatch.Goals as goal

pub returns-clause-shard : goal.returns-clause-shard
returns-clause-shard g c =
    let x = c.args.self.now in
    let v = known_by c.args.pass.now in
    let w = known_by c.serve_named.new.pass in
    let A : Reply → Type 0 = λ r. AnsweredOn x c.args.shard v w c.asked_by_client-asked.result r in
    let B : Reply → Type 0 = λ r. (d : NumberedDispatch) → dispatch_of r ≡ Some d → d.dispatch.hint.shard < x.settings.shards in
    let below : (r : Reply) → A r → B r = λ r done. next-below x c.requires.opened c.args.shard c.args.at v w r (subst (λ q. AnsweredOn x c.args.shard v w q r) c.asked_by_client-asked.ensures done) in
    weaker c.serve_named.result A B below c.serve_named.ensures.ok
