use Rattle.std.proofs.Common.{rules, sym, subst, ◌∙◌}
use Rattle.script.proofs.Steps.{on_any_err}
use Rattle.lanes.specs.Found.{parts_of}
use Rattle.lanes.specs.ToldLines.{BeginsLines, BeginsMore, TellsLines, TellsMore}
use Rattle.lanes.proofs.BegunLemmas.{begins-early, begins-lines, begins-then}
use Rattle.lanes.proofs.FoundLemmas.{all-read, lines-parts}
use Rattle.lanes.proofs.ToldLemmas.{more-lines, more-then}
use Rattle.lanes.proofs.run.LaneScript.feed_shared.Goals as goal

pub returns-in_err-take_all : goal.returns-in_err-take_all
returns-in_err-take_all g c = record {
  own = search rules;
  told = search rules;
  begun = (let text = c.args.text.now in
      let K = c.args.settings.now in
      let front = parts_of text c.give_all-rest.new.readers in
      let whole = lines-parts text c.give_all-rest.new.readers c.give_all-rest.ensures.given in
      let read = all-read text K c.give_all-rest.new.readers c.read_all.new.readers c.read_all.ensures.count c.read_all.ensures.read in
      on_any_err c.from_residual.result _
      (subst (λ t. BeginsMore (g.D.Door.serves c.args.door.now) (g.D.Door.meets c.args.door.now) K t c.args.self.now (g.W.Write.contents c.args.writer.now.inner) (g.W.Write.contents c.take_all.new.writer.inner)) (sym c.give_all-rest.ensures.parts)
      (begins-early front c.give_all-rest.result.now c.args.self.now _ _ (begins-lines front c.args.self.now _ _ c.requires.line
      (subst (λ ls. BeginsLines (g.D.Door.serves c.args.door.now) (g.D.Door.meets c.args.door.now) K ls c.args.self.now (g.W.Write.contents c.args.writer.now.inner) (g.W.Write.contents c.take_all.new.writer.inner)) whole.0 (c.in_err-take_all.ensures.ends.begun K _ read))))));
  grows = search rules;
  fault = search rules;
}

pub returns-in_err-feed_lines : goal.returns-in_err-feed_lines
returns-in_err-feed_lines g c = record {
  own = search rules;
  told = search rules;
  begun = (let text = c.args.text.now in
      let K = c.args.settings.now in
      let front = parts_of text c.give_all-rest.new.readers in
      let whole = lines-parts text c.give_all-rest.new.readers c.give_all-rest.ensures.given in
      let read = all-read text K c.give_all-rest.new.readers c.read_all.new.readers c.read_all.ensures.count c.read_all.ensures.read in
      let told = more-lines front c.args.self.now c.take_all.new.self _ _ c.requires.line (c.in_ok-take_all.ensures.line ∙ c.requires.line) whole.1
      (subst (λ ls. TellsLines (g.D.Door.serves c.args.door.now) (g.D.Door.meets c.args.door.now) K ls c.args.self.now c.take_all.new.self (g.W.Write.contents c.args.writer.now.inner) (g.W.Write.contents c.take_all.new.writer.inner)) whole.0 (c.in_ok-take_all.ensures.ends.told K _ read)) in
      on_any_err c.from_residual-in_err-feed_lines.result _
      (subst (λ t. BeginsMore (g.D.Door.serves c.args.door.now) (g.D.Door.meets c.args.door.now) K t c.args.self.now (g.W.Write.contents c.args.writer.now.inner) (g.W.Write.contents c.feed_lines.new.writer.inner)) (sym c.give_all-rest.ensures.parts)
      (begins-then front c.give_all-rest.result.now c.args.self.now c.take_all.new.self _ _ _ told c.in_err-feed_lines.ensures.begun)));
  grows = search rules;
  fault = search rules;
}

pub returns : goal.returns
returns g c = record {
  own = search rules;
  told = (let text = c.args.text.now in
      let K = c.args.settings.now in
      let front = parts_of text c.give_all-rest.new.readers in
      let whole = lines-parts text c.give_all-rest.new.readers c.give_all-rest.ensures.given in
      let read = all-read text K c.give_all-rest.new.readers c.read_all.new.readers c.read_all.ensures.count c.read_all.ensures.read in
      let told = more-lines front c.args.self.now c.take_all.new.self _ _ c.requires.line (c.in_ok-take_all.ensures.line ∙ c.requires.line) whole.1
      (subst (λ ls. TellsLines (g.D.Door.serves c.args.door.now) (g.D.Door.meets c.args.door.now) K ls c.args.self.now c.take_all.new.self (g.W.Write.contents c.args.writer.now.inner) (g.W.Write.contents c.take_all.new.writer.inner)) whole.0 (c.in_ok-take_all.ensures.ends.told K _ read)) in
      subst (λ t. TellsMore (g.D.Door.serves c.args.door.now) (g.D.Door.meets c.args.door.now) K t c.args.self.now c.feed_lines.new.self (g.W.Write.contents c.args.writer.now.inner) (g.W.Write.contents c.feed_lines.new.writer.inner)) (sym c.give_all-rest.ensures.parts)
      (more-then front c.give_all-rest.result.now c.args.self.now c.take_all.new.self c.feed_lines.new.self _ _ _ told c.in_ok-feed_lines.ensures.told));
  begun = search rules;
  grows = search rules;
  fault = search rules;
}
