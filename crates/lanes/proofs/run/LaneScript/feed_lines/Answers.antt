use Rattle.std.proofs.Common.{rules, [], ◌++◌, ◌∷◌, sym, subst, ◌∙◌, append_assoc, arith, refl}
use Rattle.std.proofs.lemmas.List.{append-nil}
use Rattle.lanes.specs.ToldLines.{TextTold}
use Rattle.script.proofs.PartLemmas.{next_done}
use Rattle.script.proofs.Steps.{on_any_err}
use Rattle.lanes.proofs.BegunLemmas.{begins-chunk, begins-part}
use Rattle.lanes.proofs.ToldLemmas.{text-whole}
use Rattle.lanes.proofs.run.LaneScript.feed_lines.Goals as goal

pub loop-part-init : goal.loop-part-init
loop-part-init g c = record {
  own = c.requires;
  done = [];
  parts = refl;
  told = λ ps text held h. subst (λ t. TextTold (g.D.Door.serves c.args.door.now) (g.D.Door.meets c.args.door.now) c.args.settings.now ps t c.args.self.now held (g.W.Write.contents c.args.writer.now.inner)) (sym (append-nil text)) h;
  grows = omega arith;
}

pub loop-part-preserved : goal.loop-part-preserved
loop-part-preserved g c =
    let so_far = c.loop-part.invariant in
    let line = c.in-Some.part.now ++ 10 ∷ [] in
    record {
      own = c.take_line.ensures.ends.own;
      done = so_far.done ++ line;
      parts = next_done c.args.chunk.now so_far.done c.loop-part.rest.now c.in-Some.part.now c.in-Some.behind.now so_far.parts c.in-Some.ensures.parts;
      told = λ ps text held h.
          subst (λ t. TextTold (g.D.Door.serves c.args.door.now) (g.D.Door.meets c.args.door.now) c.args.settings.now ps t c.take_line.new.self held (g.W.Write.contents c.take_line.new.writer.inner))
          (append_assoc text so_far.done line) (c.in_ok-take_line.ensures.ends.told ps (text ++ so_far.done) held (so_far.told ps text held h));
      grows = omega (arith, so_far.grows, c.take_line.ensures.ends.grows);
    }

pub returns-in_err-take_line : goal.returns-in_err-take_line
returns-in_err-take_line g c = record {
  own = search rules;
  told = search rules;
  begun = (let so_far = c.loop-part.invariant in
      let line = c.in-Some.part.now ++ 10 ∷ [] in
      let is = next_done c.args.chunk.now so_far.done c.loop-part.rest.now c.in-Some.part.now c.in-Some.behind.now so_far.parts c.in-Some.ensures.parts in
      on_any_err c.from_residual.result _
      (λ ps text held h. begins-chunk text c.args.chunk.now so_far.done line c.in-Some.behind.now held _ is (c.in_err-take_line.ensures.ends.begun ps (text ++ so_far.done) held (so_far.told ps text held h))));
  grows = search rules;
  fault = search rules;
}

pub returns-in_err-extend : goal.returns-in_err-extend
returns-in_err-extend g c = record {
  own = search rules;
  told = search rules;
  begun = (let so_far = c.loop-part.invariant in
      let rest = c.loop-part.rest.now in
      on_any_err c.from_residual-in_err-extend.result _
      (λ ps text held h. begins-chunk text c.args.chunk.now so_far.done rest [] held _ (so_far.parts ∙ sym (append-nil (so_far.done ++ rest))) (begins-part (text ++ so_far.done) rest _ held _ (so_far.told ps text held h))));
  grows = search rules;
  fault = search rules;
}

pub returns : goal.returns
returns g c = record {
  own = search rules;
  told = (let so_far = c.loop-part.invariant in
      λ ps text held h.
      text-whole text c.args.chunk.now so_far.done c.loop-part.rest.now c.loop-part.self _ held _ so_far.parts c.in_default.ensures.none c.in_ok-extend.ensures refl refl refl refl (so_far.told ps text held h));
  begun = search rules;
  grows = search rules;
  fault = search rules;
}
