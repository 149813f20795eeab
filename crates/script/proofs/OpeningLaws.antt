-- a service that is opened without records
use Rattle.std.proofs.Common.{◌≡◌, ℕ, ◌+◌, ◌*◌, zero, suc, List, [], ◌∷◌, length, refl, sym, ap, ◌∙◌, replicate}
use Rattle.std.specs.Prelude.{flat_map, map, Ok}
use Rattle.std.specs.List.{range_with_len}
use Rattle.service_model_types.specs.declared.request.Hint.{Hint}
use Rattle.service_model_types.specs.declared.settings.Settings.{Settings}
use Rattle.service_model.specs.Service.{Entry}
use Rattle.service_model.specs.Waiting.{waiting}
use Rattle.service.specs.Contents.{opening_contents}
use Rattle.service.specs.Reopening.{content_from, opens, record_at}
use Rattle.service.proofs.ReopenLemmas.{opens-as}
use Rattle.script.specs.OpeningLaws.{OpensEmpty}
use Rattle.script.specs.World.{World, held_at_opening, opening_from}
use Rattle.shard_gate.specs.declared.source.Source.TheVariants.{Records as FromRecords}

no-record : (n m : ℕ) → map (record_at []) (range_with_len n m) ≡ replicate m []
no-record n zero = refl
no-record n (suc m) = ap (λ t. [] ∷ t) (no-record (n + 1) m)

-- no task waits where nothing was asked
none-waits : (K : Settings) (n m : ℕ) → flat_map waiting (map (content_from K []) (range_with_len n m)) ≡ []
none-waits K n zero = refl
none-waits K n (suc m) = none-waits K (n + 1) m

pub opens-empty : OpensEmpty
unfolding opening_from
opens-empty K range =
    let none : List (List Hint) = replicate (2 * length K.queues) [] in
    let opened : opens K [] ≡ Ok none = opens-as FromRecords K [] [] (Ok none) range refl (sym (none-waits K 0 K.shards)) refl in
    let with_waiting : List (List Hint) → World = λ t. record { contents = opening_contents K; waiting = t; records = map (record_at []) (range_with_len 0 K.shards); steps = [] } in
    let with_records : List (List Entry) → World = λ logs. record { contents = opening_contents K; waiting = none; records = logs; steps = [] } in
    ap with_waiting (ap held_at_opening opened) ∙ ap with_records (no-record 0 K.shards)
