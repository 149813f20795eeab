use Rattle.std.proofs.Common.{subst}
use Rattle.std.specs.Prelude.{IfOk}
use Rattle.service_model_types.specs.declared.request.Operation.TheVariants as operation
use Rattle.service_model_types.specs.declared.request.Request.{Request}
use Rattle.service.specs.Services.{IsServedAtLast, known_by}
use Rattle.service.proofs.service.Service.start_taken.Goals as goal

pub returns-clause-ok : goal.returns-clause-ok
returns-clause-ok g c =
    let Done : Request → Type 0 = λ q. IfOk c.serve_there.result (λ r. IsServedAtLast c.args.self.now (known_by c.args.pass.now) (known_by c.serve_there.new.pass) c.args.hint.shard q r) in
    let asked = subst Done c.request-asked.ensures c.serve_there.ensures.ok in
    subst (λ t. Done (record { at = c.args.at; operation = operation.StartTask t })) c.task.ensures asked
