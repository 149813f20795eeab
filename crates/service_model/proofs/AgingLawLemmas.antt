-- of one workflow ID the older run goes first, since a shard opens without runs
use Rattle.std.proofs.Common.{◌≡◌, ℕ, List, [], ◌∷◌, Some, refl}
use Rattle.std.specs.Prelude.{slice_get}
use Rattle.service_model_types.specs.declared.content.Setup.{Setup}
use Rattle.service_model.specs.Aging.{IsAged}
use Rattle.service_model.specs.AgingLaws.{OlderGoesFirst}
use Rattle.service_model.specs.Growth.{HasOneOpen}
use Rattle.service_model.specs.Service.{opening}

nothing : {A : Type 0} (xs : List A) (n : ℕ) (x : A) → xs ≡ [] → slice_get xs n ≡ Some x → ⊥
nothing [] n x none is = cc is
nothing (y ∷ xs) n x none is = cc none

opened-one : (setup : Setup) → HasOneOpen (opening setup)
opened-one setup = record { earlier = λ m n J K less at_m at_n is_k same. absurd (nothing [] m J refl at_m) }

opened-aged : (setup : Setup) → IsAged (opening setup)
opened-aged setup = record {
  over = λ n s at there over. absurd (nothing [] n s refl at);
  in_order = λ m n s t pair over a b at_a at_b. absurd (nothing [] m s refl pair.at_m);
}

pub older-goes-first : OlderGoesFirst
older-goes-first setup S T first next =
    let one = first.one (opened-one setup) in
    let aged = (first.aged (opened-one setup) (opened-aged setup)).0 in
    (next.aged one aged).1
