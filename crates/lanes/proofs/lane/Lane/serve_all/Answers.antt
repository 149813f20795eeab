use Rattle.std.proofs.Common.{◌∷◌, length, refl, sym, ap, ◌∙◌, arith}
use Rattle.lanes.specs.Calls.{waiting}
use Rattle.lanes.proofs.WorkLemmas.{made-all, made-some, working-more, working-none}
use Rattle.lanes.proofs.lane.Lane.serve_all.Goals as goal

pub loop-next-init : goal.loop-next-init
loop-next-init g c = record { own = c.requires.own; working = working-none _ _ c.requires.taken c.requires.answered }

pub loop-next-smaller : goal.loop-next-smaller
loop-next-smaller g c = omega (arith, ap length c.in-Some.ensures.some, ap (λ a. length (waiting a)) c.serve_one.ensures.asked)

pub loop-next-preserved : goal.loop-next-preserved
loop-next-preserved g c =
    let one = c.in_ok-serve_one.ensures.served in
    record {
      own = c.serve_one.ensures.own;
      working = working-more _ _ c.loop-next.self _ c.in-Some.next one.reply c.loop-next.invariant.working (c.in-Some.ensures.some ∙ ap (λ a. c.in-Some.next ∷ waiting a) (sym c.serve_one.ensures.asked)) one.served one.wrote c.serve_one.ensures.taken;
    }

pub returns-in_err-serve_one-clause-made : goal.returns-in_err-serve_one-clause-made
returns-in_err-serve_one-clause-made g c =
    made-some _ _ c.loop-next.self _ c.in-Some.next _ c.loop-next.invariant.working c.in-Some.ensures.some c.in_err-serve_one.ensures.kept c.serve_one.ensures.taken

pub returns-clause-made : goal.returns-clause-made
returns-clause-made g c = made-all _ _ c.loop-next.self _ c.loop-next.invariant.working refl refl refl
