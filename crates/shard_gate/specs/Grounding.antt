-- MEANING: what the contents of all shards have to show before a request is made on one of them
use Rattle.std.specs.Prelude.{ℕ, List}
use Rattle.service_model_types.specs.declared.content.Content.{Content}
use Rattle.service_model_types.specs.declared.request.Request.{Request}
use Rattle.service_model.specs.Grounds.{Grounds}

abbrev pub grounds : List Content → ℕ → Request → Type 0
grounds contents s q = Grounds contents s q.operation
