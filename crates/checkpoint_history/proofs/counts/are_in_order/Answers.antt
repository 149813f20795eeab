use Rattle.std.proofs.Common.{◌∙◌, ℕ, ◌<◌, arith, length, refl, sym}
use Rattle.checkpoint_history.specs.CountedPairs.{PlacesInOrder}
use Rattle.checkpoint_history.proofs.CountLemmas.{all-counted, all-told, one-more, placed}
use Rattle.checkpoint_history.proofs.counts.are_in_order.Goals as goal

pub returns : goal.returns
returns c =
    let shards = c.args.shards.now in
    let ended = c.loop-from-test.false in
    λ S are. (
      (λ _. all-told shards (λ from to less less'. c.loop-from.invariant from to (omega (arith, less, ended)) less') S are),
      (λ _. refl),
    )

pub returns-then-not-count_in_order : goal.returns-then-not-count_in_order
returns-then-not-count_in_order c =
    let no = c.if-not-count_in_order.true in
    let within = c.loop-to-test.true in
    λ S are. (
      (λ is. absurd (cc is)),
      (λ ordered. sym no ∙ c.count_in_order.ensures.1 (all-counted c.args.shards.now c.loop-from.from c.loop-to.to c.index-shards-from.result c.index-shards-to.result
          c.index-shards-from.is c.index-shards-to.is c.loop-from-test.true (omega (arith, within)) S are ordered)),
    )

pub loop-to-preserved : goal.loop-to-preserved
loop-to-preserved c =
    let shards = c.args.shards.now in record {
      rows = c.loop-to.invariant.rows;
      row = one-more (PlacesInOrder shards c.loop-from.from) c.loop-to.to c.loop-to.invariant.row
          (placed shards c.loop-from.from c.loop-to.to c.index-shards-from.result c.index-shards-to.result c.index-shards-from.is c.index-shards-to.is
          (c.count_in_order.ensures.0 c.if-not-count_in_order.false));
    }

pub loop-from-preserved : goal.loop-from-preserved
loop-from-preserved c =
    let shards = c.args.shards.now in
    let ended = c.loop-to-test.false in
    λ from to less less'.
    one-more (λ f. (k : ℕ) → k < length shards → PlacesInOrder shards f k) c.loop-from.from (λ f l k l'. c.loop-to.invariant.rows f k l l')
    (λ k l. c.loop-to.invariant.row k (omega (arith, l, ended))) from less to less'
