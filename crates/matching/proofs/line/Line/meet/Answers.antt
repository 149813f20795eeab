use Rattle.std.proofs.Common.{rules, ap, ◌∙◌}
use Rattle.crossbeam_queue.proofs.Comings.{forks, merges}
use Rattle.matching.proofs.Finds.{compares_told}
use Rattle.matching.proofs.Meets.{notes, tells, adopts, agree_of}
use Rattle.matching.proofs.line.Line.meet.Goals as goal

pub split_seat-note-requires : goal.split_seat-note-requires
split_seat-note-requires c = (c.requires.own.0.0, search rules, forks _ _ c.args.first.now.me.0 _ _ (notes _ _ _ _ _ c.requires.passes.0))

pub join_seat-requires : goal.join_seat-requires
join_seat-requires c = let note = c.split_seat-note.ensures in (
  c.requires.own.1.0,
  note.3 ∙ c.requires.own.0.0,
  ap (λ m. m.1) note.4,
  search rules,
  merges _ _ c.args.second.now.me.0 _ c.split_seat-note.result.me.0 _ _ (tells _ _ _ _ _ _ _ c.requires.passes.1 (ap (λ m. m.0.client.kind) note.4)),
)

pub load-requires : goal.load-requires
load-requires c = let has = c.join_seat.ensures in (
  has.0 ∙ c.requires.own.1.0,
  search rules,
  compares_told _ _ _ _ _ _ (ap (λ m. m.0.client.kind) has.2 ∙ c.requires.passes.1),
)

pub split_seat-note-requires-2 : goal.split_seat-note-requires-2
split_seat-note-requires-2 c = let has = c.join_seat.ensures in let saw = c.load.ensures in (
  saw.0 ∙ (has.0 ∙ c.requires.own.1.0),
  search rules,
  forks _ _ c.load.new.seat.me.0 _ _ (notes _ _ _ _ _ (ap (λ v. v.kind) saw.2.1.knows ∙ (ap (λ m. m.0.client.kind) has.2 ∙ c.requires.passes.1))),
)

pub join_seat-requires-2 : goal.join_seat-requires-2
join_seat-requires-2 c = let has = c.join_seat.ensures in let saw = c.load.ensures in let gave = c.split_seat-note.ensures in let note = c.split_seat-note-2.ensures in (
  gave.0 ∙ c.requires.own.0.0,
  note.3 ∙ (saw.0 ∙ (has.0 ∙ c.requires.own.1.0)),
  ap (λ m. m.1) note.4,
  search rules,
  merges _ _ c.split_seat-note.new.seat.me.0 _ c.split_seat-note-2.result.me.0 _ _ (adopts _ _ _ _ _ _ _ (ap (λ m. m.0.client.kind) gave.2 ∙ c.requires.passes.0) (ap (λ m. m.0.client.kind) note.4)),
)

pub returns-clause-agree : goal.returns-clause-agree
returns-clause-agree c =
    let has = c.join_seat.ensures in let saw = c.load.ensures in let gave = c.split_seat-note.ensures in let note = c.split_seat-note-2.ensures in let took = c.join_seat-2.ensures in
    agree_of c.args.first.now.me.0.client c.args.second.now.me.0.client c.join_seat.new.seat.me.0.client c.load.new.seat.me.0.client
    c.join_seat-2.new.seat.me.0.client c.split_seat-note-2.new.seat.me.0.client c.split_seat-note.result.me.0.client c.split_seat-note-2.result.me.0.client
    c.requires.quiet.1 (ap (λ m. m.0.client) gave.4) (ap (λ m. m.0.client) has.2) saw.2.1 (ap (λ m. m.0.client) note.4)
    (ap (λ m. m.0.client) took.2 ∙ ap (λ v. Rattle.matching.specs.ToldHints.adopted v c.split_seat-note-2.result.me.0.client) (ap (λ m. m.0.client) gave.2)) (ap (λ m. m.0.client) note.2)
