use Rattle.std.proofs.Common.{◌≡◌, ◌<◌, Some, length, slice_get, refl, ap, ◌∙◌, arith}
use Rattle.std.proofs.Math.Nat.{min-le_left, min-le_right}
use Rattle.std.proofs.Math.Seq.{map-set_same}
use Rattle.std.proofs.lemmas.List.{length-set}
use Rattle.std.proofs.lemmas.Option.{slice_get_read}
use Rattle.lanes.proofs.SortLemmas.{handed-all, handing-none, handing-one, min-past}
use Rattle.lanes.proofs.run.hand_over.Goals as goal

pub loop-k-init : goal.loop-k-init
loop-k-init g c = record { handing = handing-none _ _ _ }

pub returns-in_err-ask_all-clause-passes : goal.returns-in_err-ask_all-clause-passes
returns-in_err-ask_all-clause-passes g c =
    map-set_same (λ l. l.pass) c.loop-k.lanes.items c.loop-k.k c.ask_all.new.self c.index_mut.result.now (c.ask_all.ensures.pass ∙ ap (λ l. l.pass) c.index_mut.ensures.value) ∙ c.loop-k.invariant.handing.passes

pub loop-k-preserved : goal.loop-k-preserved
loop-k-preserved g c =
    let h = c.loop-k.invariant.handing in
    let k = c.loop-k.k in
    let ls = c.loop-k.lanes.items in
    let lists = c.loop-k.calls.items in
    let l = c.index_mut.result.now in
    let x = c.index_mut-in-loop-k.result.now in
    let within : k < length ls = omega (arith, c.loop-k-test.true, c.min-count.ensures, min-le_left c.len.result c.len-2.result, c.len.ensures, c.args.lanes.now.ok.0, h.lanes) in
    let beside : k < length lists = omega (arith, c.loop-k-test.true, c.min-count.ensures, min-le_right c.len.result c.len-2.result, c.len-2.ensures, c.args.calls.now.ok.0, h.count) in
    let at_l : slice_get ls k ≡ Some l = slice_get_read ls _ k l refl within c.index_mut.ensures.value in
    let at_x : slice_get lists k ≡ Some x = slice_get_read lists _ k x refl beside c.index_mut-in-loop-k.ensures.value in
    record {
      handing = handing-one c.args.first c.args.calls.now.items c.args.lanes.now.items k lists ls l c.ask_all.new.self x c.ask_all.new.calls at_l at_x c.in_ok-ask_all.ensures.asked (length-set ls k _) (length-set lists k _)
          (map-set_same (λ l. l.pass) ls k c.ask_all.new.self l (c.ask_all.ensures.pass ∙ ap (λ l. l.pass) c.index_mut.ensures.value)) h;
    }

pub returns-clause-asked : goal.returns-clause-asked
returns-clause-asked g c =
    handed-all c.args.first c.args.calls.now.items c.args.lanes.now.items c.loop-k.k c.loop-k.calls.items c.loop-k.lanes.items
    (min-past (length c.args.lanes.now.items) (length c.args.calls.now.items) c.loop-k.k (omega (arith, c.loop-k-test.false, c.min-count.ensures, c.len.ensures, c.len-2.ensures, c.args.lanes.now.ok.0, c.args.calls.now.ok.0))) c.loop-k.invariant.handing
