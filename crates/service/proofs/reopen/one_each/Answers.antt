use Rattle.std.proofs.Common.{◌≡◌, ◌<◌, ◌∙◌, length, map, ap, sym, arith}
use Rattle.std.specs.List.{range_with_len}
use Rattle.service.specs.Reopening.{record_at}
use Rattle.service.proofs.ReopenLemmas.{each-record, records-count, one-more}
use Rattle.service.proofs.reopen.one_each.Goals as goal

pub returns-then-len-ne0 : goal.returns-then-len-ne0
returns-then-len-ne0 c =
    let all = c.args.records.items in
    let some : 0 < length all = omega (arith, c.len.ensures, c.args.records.ok, c.if-len-ne0.true) in
    sym (each-record all) ∙ ap (λ n. map (record_at all) (range_with_len 0 n)) (records-count c.args.settings.now all c.requires some)

pub loop-preserved : goal.loop-preserved
loop-preserved c =
    let none : length c.args.records.items ≡ 0 = omega (arith, c.len.ensures, c.args.records.ok, c.if-len-ne0.false) in
    one-more c.args.records.items c.loop.all.items c.push.new.self.items c.new.result c.loop.counter none c.loop.invariant c.new.ensures c.in_ok-push.ensures.items
