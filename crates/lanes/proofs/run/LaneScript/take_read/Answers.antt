use Rattle.std.proofs.Common.{rules}
use Rattle.script.proofs.Steps.{on_any_err}
use Rattle.lanes.proofs.BegunLemmas.{begins-unread}
use Rattle.lanes.proofs.FoundLemmas.{read-begins, read-tells}
use Rattle.lanes.proofs.LaneLemmas.{own-same}
use Rattle.lanes.proofs.run.LaneScript.take_read.Goals as goal

pub take_found-requires-after_bounds : goal.take_found-requires-after_bounds
take_found-requires-after_bounds g c = let own = own-same (g.D.Door.admits c.args.door.now) c.args.self.now.lanes.items c.append.new.self.lanes.items c.append.ensures.passes c.requires in search (rules, own)

pub returns-then-reader-clause-ends : goal.returns-then-reader-clause-ends
returns-then-reader-clause-ends g c = record {
  own = search rules;
  told = search rules;
  begun = λ K lines read. begins-unread K lines c.args.self.now _;
  grows = search rules;
  fault = search rules;
}

pub returns-clause-ends : goal.returns-clause-ends
returns-clause-ends g c = record {
  own = search rules;
  told = λ K lines read. read-tells K _ _ lines c.args.self.now c.append.new.self _ _ _ c.in_ok-append.ensures.added c.in_ok-take_found.ensures.ends.told (read c.if-reader.false);
  begun = search rules;
  grows = search rules;
  fault = search rules;
}

pub returns-in_err-append-clause-ends : goal.returns-in_err-append-clause-ends
returns-in_err-append-clause-ends g c = record {
  own = own-same (g.D.Door.admits c.args.door.now) c.args.self.now.lanes.items c.append.new.self.lanes.items c.append.ensures.passes c.requires;
  told = search rules;
  begun = on_any_err c.from_residual.result _ (λ K lines read. begins-unread K lines c.args.self.now _);
  grows = search rules;
  fault = search rules;
}

pub returns-in_err-take_found-clause-ends : goal.returns-in_err-take_found-clause-ends
returns-in_err-take_found-clause-ends g c = record {
  own = search rules;
  told = search rules;
  begun = (on_any_err c.from_residual-in_err-take_found.result _
      (λ K lines read. read-begins K _ _ lines c.args.self.now c.append.new.self _ _ c.in_ok-append.ensures.added c.in_err-take_found.ensures.ends.begun (read c.if-reader.false)));
  grows = search rules;
  fault = search rules;
}
