use Rattle.std.proofs.Common.{ap, arith, ◌≡◌, ◌+◌, ◌∙◌}
use Rattle.std.specs.Prelude.{Some}
use Rattle.timeouts.specs.Places.{ids_of}
use Rattle.timeouts.proofs.PlaceLemmas.{ids-set, noted-next, on-ok}
use Rattle.timeouts.proofs.by_place.note.Goals as goal

pub returns-in-Some-clause-ok : goal.returns-in-Some-clause-ok
returns-in-Some-clause-ok c =
    let is : c.in-Some.note ≡ c.args.id.number + 1 = omega (arith, c.in-Some.ensures) in
    on-ok c.set.result _ _ (λ set. ap ids_of set ∙ ids-set c.args.notes.now.items c.args.number c.in-Some.note (Some c.args.id) (noted-next c.args.id c.in-Some.note is)) c.set.ensures.ok
