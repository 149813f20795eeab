use Rattle.std.proofs.Common.{rules, ◌<◌, ◌+◌, [], take, drop, get_or, length, refl, sym, subst, ◌∙◌, arith}
use Rattle.std.proofs.lemmas.List.{get_or-set_other, length-set, take_all}
use Rattle.script.proofs.Steps.{on_any_err}
use Rattle.lanes.specs.Found.{IsRead, lines_of}
use Rattle.lanes.specs.ToldLines.{BeginsLines, TellsLines}
use Rattle.lanes.proofs.FoundLemmas.{begins-within, lines-one, lines-split, read-at, read-count, tells-none, tells-then}
use Rattle.lanes.proofs.run.LaneScript.take_all.Goals as goal

pub loop-reader-init : goal.loop-reader-init
loop-reader-init g c = record {
  own = c.requires;
  line = refl;
  count = refl;
  rest = λ k d from. refl;
  told = λ K parts h. tells-none K c.args.self.now _;
  grows = omega arith;
}

pub loop-reader-preserved : goal.loop-reader-preserved
loop-reader-preserved g c =
    let h = c.loop-reader.invariant in
    let i = c.loop-reader.reader-index in
    let item = c.reader-item.result in
    let xs = c.args.readers.now in
    let below : i < length xs = omega (arith, h.count) in
    record {
      own = c.take_read.ensures.ends.own;
      line = c.in_ok-take_read.ensures.line ∙ h.line;
      count = length-set c.loop-reader.reader-items i _ ∙ h.count;
      rest = λ k d from. get_or-set_other c.loop-reader.reader-items i k _ d (λ e. absurd (omega (arith, from, e))) ∙ h.rest k d (omega (arith, from));
      told = λ K parts read.
          let next = get_or parts i [] in
          let own : IsRead K (get_or c.loop-reader.reader-items i item) next = subst (λ r. IsRead K r next) (sym (h.rest i item (omega arith))) (read-at K xs parts i item read below) in
          subst (λ ls. TellsLines (g.D.Door.serves c.args.door.now) (g.D.Door.meets c.args.door.now) K ls c.args.self.now c.take_read.new.self (g.W.Write.contents c.args.writer.now.inner) (g.W.Write.contents c.take_read.new.writer.inner))
          (sym (lines-one parts i (omega (arith, below, read-count K xs parts read))))
          (tells-then K (lines_of (take i parts)) next c.args.self.now c.loop-reader.self c.take_read.new.self _ _ _ (h.told K parts read) (c.in_ok-take_read.ensures.ends.told K next own));
      grows = omega (arith, h.grows, c.take_read.ensures.ends.grows);
    }

pub returns-in_err-take_read-clause-ends : goal.returns-in_err-take_read-clause-ends
returns-in_err-take_read-clause-ends g c = record {
  own = search rules;
  told = search rules;
  begun = (let h = c.loop-reader.invariant in
      let i = c.loop-reader.reader-index in
      let item = c.reader-item.result in
      let xs = c.args.readers.now in
      let below : i < length xs = omega (arith, h.count) in
      on_any_err c.from_residual.result _
      (λ K parts read.
      let next = get_or parts i [] in
      let own : IsRead K (get_or c.loop-reader.reader-items i item) next = subst (λ r. IsRead K r next) (sym (h.rest i item (omega arith))) (read-at K xs parts i item read below) in
      subst (λ ls. BeginsLines (g.D.Door.serves c.args.door.now) (g.D.Door.meets c.args.door.now) K ls c.args.self.now (g.W.Write.contents c.args.writer.now.inner) (g.W.Write.contents c.take_read.new.writer.inner))
      (sym (lines-split parts i (omega (arith, below, read-count K xs parts read))))
      (begins-within K (lines_of (take i parts)) next (lines_of (drop (i + 1) parts)) c.args.self.now c.loop-reader.self _ _ _ (h.told K parts read) (c.in_err-take_read.ensures.ends.begun K next own))));
  grows = search rules;
  fault = search rules;
}

pub returns-clause-ends : goal.returns-clause-ends
returns-clause-ends g c = record {
  own = search rules;
  told = (let h = c.loop-reader.invariant in
      let i = c.loop-reader.reader-index in
      let xs = c.args.readers.now in
      λ K parts read.
      subst (λ t. TellsLines (g.D.Door.serves c.args.door.now) (g.D.Door.meets c.args.door.now) K (lines_of t) c.args.self.now c.loop-reader.self (g.W.Write.contents c.args.writer.now.inner) (g.W.Write.contents c.loop-reader.writer.inner))
      (take_all i parts (omega (arith, h.count, c.loop-reader-test.false, read-count K xs parts read))) (h.told K parts read));
  begun = search rules;
  grows = search rules;
  fault = search rules;
}
