use Rattle.std.proofs.Common.{◌∷◌, ◌++◌, [], ◌≡◌, refl, set, subst, arith}
use Rattle.std.proofs.lemmas.Option.{slice_get_read}
use Rattle.lanes.specs.Lanes.{WereAsked, calls_of, only_in}
use Rattle.lanes.proofs.WorkLemmas.{asked-in, asked-past, then_ok}
use Rattle.std.proofs.Math.Seq.{map-set_same}
use Rattle.std.proofs.Common.{ap, ◌∙◌, Some, slice_get}
use Rattle.lanes.proofs.run.ask_lane.Goals as goal

pub returns-then-lane-len-clause-asked : goal.returns-then-lane-len-clause-asked
returns-then-lane-len-clause-asked g c = asked-past c.args.lane c.args.call c.args.lanes.now.items (omega (arith, c.args.lanes.now.ok.0))

pub returns-clause-passes : goal.returns-clause-passes
returns-clause-passes g c = map-set_same (λ l. l.pass) c.args.lanes.now.items c.from-lane.result c.ask.new.self c.index_mut.result.now (c.ask.ensures.pass ∙ ap (λ l. l.pass) c.index_mut.ensures.value)

pub returns-clause-asked : goal.returns-clause-asked
returns-clause-asked g c =
    let x = c.index_mut.result.now in
    let at : slice_get c.args.lanes.now.items c.from-lane.result ≡ Some x = slice_get_read c.args.lanes.now.items _ c.from-lane.result x refl (omega (arith, c.args.lanes.now.ok.0)) c.index_mut.ensures.value in
    then_ok c.ask.result _ _ c.ask.ensures.asked
    (λ (more : calls_of c.ask.new.self ≡ calls_of x ++ c.args.call ∷ []).
    subst (λ lane. WereAsked (only_in lane c.args.call) c.args.lanes.now.items (set c.args.lanes.now.items c.from-lane.result c.ask.new.self)) c.from-lane.ensures
    (asked-in c.from-lane.result c.args.call c.args.lanes.now.items x c.ask.new.self at c.ask.ensures.pass more))
