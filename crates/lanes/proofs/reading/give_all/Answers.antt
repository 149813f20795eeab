use Rattle.std.proofs.Common.{◌<◌, length, ◌∙◌, arith}
use Rattle.std.proofs.lemmas.List.{length-set}
use Rattle.lanes.proofs.FoundLemmas.{giving-one}
use Rattle.lanes.proofs.reading.give_all.Goals as goal

pub loop-k-preserved : goal.loop-k-preserved
loop-k-preserved c =
    let h = c.loop-k.invariant in
    let rs = c.loop-k.readers in
    let k = c.loop-k.k in
    let below : k < length rs = omega (arith, c.loop-k-test.true, h.count) in
    record {
      count = length-set rs k c.give.new.self ∙ h.count;
      giving = giving-one c.args.text.now rs k c.loop-k.rest.now c.part_at.result.0.now c.part_at.result.1.now c.give.new.self below c.part_at.ensures.parts c.part_at.ensures.ends c.give.ensures.from c.give.ensures.to h.giving;
    }
