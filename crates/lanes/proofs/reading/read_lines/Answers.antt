use Rattle.std.proofs.Common.{[], ◌++◌, ◌∷◌, refl, sym, ap, subst, ◌∙◌}
use Rattle.script.proofs.PartLemmas.{next_done}
use Rattle.wf_event_values.specs.Gives.{Gives}
use Rattle.script.specs.Asked.{asked}
use Rattle.script.specs.Pending.{grown}
use Rattle.lanes.specs.Found.{AreRead}
use Rattle.lanes.proofs.FoundLemmas.{ends-line, ends-none, lines-more, lines-whole, read-none}
use Rattle.lanes.proofs.reading.read_lines.Goals as goal

pub loop-part-init : goal.loop-part-init
loop-part-init c = record {
  done = [];
  parts = refl;
  ends = ends-none;
  read = read-none c.args.settings.now _ _ c.requires.sorted c.requires.found;
}

pub loop-part-preserved : goal.loop-part-preserved
loop-part-preserved c =
    let h = c.loop-part.invariant in
    let part = c.in-Some.part.now in
    let gives = subst (λ l. Gives c.asked.result (asked c.args.settings.now l)) (c.in_ok-extend.ensures ∙ ap (λ l. grown l part) c.clear.ensures) c.asked.ensures in
    record {
      done = h.done ++ (part ++ 10 ∷ []);
      parts = next_done c.args.text.now h.done c.loop-part.rest.now part c.in-Some.behind.now h.parts c.in-Some.ensures.parts;
      ends = ends-line h.done part;
      read = subst (AreRead c.args.settings.now c.keep.new.sorted c.keep.new.found.items) (sym (lines-more h.done part h.ends c.in-Some.ensures.first))
          (c.in_ok-keep.ensures c.args.settings.now _ _ gives h.read);
    }

pub returns : goal.returns
returns c =
    let h = c.loop-part.invariant in
    subst (AreRead c.args.settings.now c.loop-part.sorted c.loop-part.found.items) (sym (lines-whole c.args.text.now h.done c.loop-part.rest.now h.parts c.in_default.ensures.none)) h.read
