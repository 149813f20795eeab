use Rattle.std.proofs.Common.{arith}
use Rattle.std.proofs.lemmas.List.{nil_from_length}
use Rattle.lanes.proofs.FoundLemmas.{read-found, read-sorted}
use Rattle.lanes.proofs.reading.keep.Goals as goal

pub returns-then-takes : goal.returns-then-takes
returns-then-takes c = λ K lines line gives r.
    read-sorted K _ c.args.sorted.now c.add.new.self _ lines c.args.one line (nil_from_length c.args.found.now.items (omega (arith, c.if-len-eq0.true, c.len.ensures, c.args.found.now.ok.0))) c.if-takes.ensures c.in_ok-add.ensures.known c.in_ok-add.ensures.more gives r

pub returns : goal.returns
returns c = λ K lines line gives r. read-found K c.args.sorted.now _ _ lines c.args.one line c.in_ok-push_back.ensures.items gives r
