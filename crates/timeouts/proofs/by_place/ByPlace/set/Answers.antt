use Rattle.std.proofs.Common.{◌≡◌, ap, sym, ◌∙◌, slice_set}
use Rattle.std.specs.Prelude.{Some}
use Rattle.timeouts.proofs.PlaceLemmas.{on-ok, put-on}
use Rattle.timeouts.proofs.by_place.ByPlace.set.Goals as goal

pub returns-in-Some-clause-ok : goal.returns-in-Some-clause-ok
returns-in-Some-clause-ok c =
    let slots = c.args.self.now.slots in
    let n = c.args.number in
    on-ok c.put.result (c.put.new.self.slots ≡ slice_set c.remove.new.self.slots n (Some c.in-Some.due)) (c.put.new.self.slots ≡ slice_set slots n c.args.due)
    (λ is. is ∙ put-on slots c.remove.new.self.slots n (Some c.in-Some.due) c.remove.ensures.slots ∙ ap (slice_set slots n) (sym c.in-Some.is))
    c.put.ensures.ok
