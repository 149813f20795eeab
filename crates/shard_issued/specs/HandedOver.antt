-- PROOF: what dispatches hand over, by keys of the tasks
use Rattle.std.specs.Prelude.{◌≡◌, ℕ, ◌==◌, ◌&&◌, Bool, List}
use Rattle.indexmap.specs.IndexSet.{IndexSet, contains}
use Rattle.service_model_types.specs.declared.content.Dispatch.{Dispatch}
use Rattle.service_model_types.specs.declared.request.Hint.{Hint}
use Rattle.service_model.specs.Waiting.{hands_over}

-- what tells the tasks of a shard apart
abbrev pub Key : Type 0
Key = ℕ × ℕ × ℕ

abbrev pub key_of : Hint → Key
key_of h = (h.run, h.event, h.attempt)

abbrev pub is_key : Key → Key → Bool
is_key a b = (a.0 == b.0) && ((a.1 == b.1) && (a.2 == b.2))

-- the set has the keys of the tasks that these dispatches hand over, and no other
abbrev pub HasKeys : {S : Type 0} → IndexSet Key S → List Dispatch → Type 0
HasKeys keys ds = (d : Dispatch) → contains is_key keys (key_of d.hint) ≡ hands_over ds d
