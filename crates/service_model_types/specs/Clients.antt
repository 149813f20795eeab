-- INNER: what clients may ask
use Rattle.std.specs.Prelude.{Bool, true, false}
use Rattle.service_model_types.specs.declared.request.Operation.{Operation}
use Rattle.service_model_types.specs.declared.request.Operation.TheVariants as operation

-- whether a client may ask for it: for all but the delivery of a transfer and its counting
abbrev pub is_clients : Operation → Bool
is_clients (operation.Deliver t) = false
is_clients (operation.Acknowledge q) = false
is_clients _ = true
