use Rattle.std.proofs.Common.{◌≡◌, ℕ, ◌≤◌, All, length, get_or, map, take}
use Rattle.lanes.specs.declared.lane.Lane.{Lane}
use Rattle.lanes.specs.Lanes.{calls_of, passes_of}
use Rattle.lanes.proofs.MeetLemmas.{HasMet}
use Rattle.lanes.proofs.phase.meet_others.Given as goal

abbrev pub invariant-loop-other : goal.invariant-loop-other
invariant-loop-other g l = record {
  own : g.D.Door.admits l.door l.first.pass;
  others : All (λ x. g.D.Door.admits l.door x.pass) l.other-items;
  count : length l.other-items ≡ length l.initial.other-items;
  met : HasMet (g.D.Door.meets l.door) l.initial.first.pass (take l.other-index (passes_of l.initial.other-items)) (take l.other-index (passes_of l.other-items)) l.first.pass;
  asked : calls_of l.first ≡ calls_of l.initial.first;
  rest : (k : ℕ) (d : Lane g.row.S.Denot g.row.S-Plan.Denot) → l.other-index ≤ k → get_or l.other-items k d ≡ get_or l.initial.other-items k d;
  kept : map calls_of l.other-items ≡ map calls_of l.initial.other-items;
}
