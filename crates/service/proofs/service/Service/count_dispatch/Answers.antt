use Rattle.std.proofs.Common.{subst}
use Rattle.service.specs.Services.{known_by}
use Rattle.service.specs.Turns.{AnsweredOn}
use Rattle.service.proofs.service.Service.count_dispatch.Goals as goal

pub returns-clause-ok : goal.returns-clause-ok
returns-clause-ok g c =
    let reply = c.in_ok-_reply._reply in
    record {
      reply = reply;
      step = subst (λ q. AnsweredOn c.args.self.now c.args.shard (known_by c.args.pass.now) (known_by c.serve_named.new.pass) q reply)
          c.asked_by_client-asked.ensures c.in_ok-_reply.ensures.ok;
    }
