use Rattle.std.proofs.Common.{rules, ap, sym, subst, ℕ, ◌+◌, ◌≡◌, ◌<◌, List, get_or, length}
use Rattle.std.specs.Prelude.{nat_lt, if◌then◌else◌}
use Rattle.crossbeam_queue.specs.Ring.{Ring, idle}
use Rattle.crossbeam_queue.proofs.Stamps.{next_power_lap}
use Rattle.atomic_table.specs.Table.{opening}
use Rattle.service_model_types.specs.declared.request.Hint.{Hint}
use Rattle.matching.specs.Rule.{Kept}
use Rattle.matching.specs.PassSteps.{maker}
use Rattle.matching.proofs.Keeps.{begins}
use Rattle.matching.proofs.Starts.{starts}
use Rattle.matching.proofs.line.Line.open.Goals as goal

pub new-requires : goal.new-requires
new-requires c =
    let next = c.next_power_of_two-one_lap.ensures in let n : ℕ = c.args.capacity in
    let laps = next_power_lap n _ next.power.0 next.power.1 next.lower_bound next.upper_bound c.requires.some c.if-capacity.false in
    let held = c.args.waiting.items in let many : c.len.result ≡ length held = search rules in
    let ws = c.in_ok-words.words.items in let words = c.in_ok-words.ensures in let slots = c.in_ok-slots.ensures in
    let same : c.of.result.value.items ≡ held = ap (λ v. v.items) c.of.ensures in
    let whole : c.as_slice.result.now ≡ ws = c.as_slice.ensures.value in
    subst (λ (z : List Hint × (ℕ × List ℕ)). Ring (Kept z.0 c.args.passes z.1.0) (opening z.1.1 c.in_ok-slots.slots.items (idle (maker c.args.passes z.1.0 n z.0)))) (λ i. (sym same i, (sym c.from.ensures i, sym whole i)))
    (starts (Kept held c.args.passes c.args.shards) n c.requires.some (subst (λ (z : ℕ). n < z) laps.0 laps.2) ws c.in_ok-slots.slots.items held c.requires.fits slots.size
    (λ i near. subst (λ (k : ℕ). get_or ws (i + 48) 0 ≡ (if nat_lt i k then i + 1 else i)) many (words.stamps i near)) slots.each
    (maker c.args.passes c.args.shards n held) words.size
    (subst (λ (z : ℕ × ℕ). get_or ws 16 0 ≡ (if nat_lt z.0 n then z.0 else z.1)) (λ i. (many i, laps.0 i)) words.counts.0) words.counts.1
    (begins held c.args.passes c.args.shards n c.requires.shards))

pub invariant_of-line : goal.invariant_of-line
invariant_of-line c =
    let next = c.next_power_of_two-one_lap.ensures in
    record { sized = (search rules, search rules, next_power_lap c.args.capacity _ next.power.0 next.power.1 next.lower_bound next.upper_bound c.requires.some c.if-capacity.false) }
