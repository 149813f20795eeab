use Rattle.std.proofs.Common.{◌≡◌, ◌+◌, ◌-◌, [], ◌∷◌, ◌++◌, take, true, false, bytes_eq, sym, ap, ◌∙◌, arith}
use Rattle.std.proofs.lemmas.List.{take_more}
use Rattle.serde_json.specs.Find.{get_member}
use Rattle.wire_trees.specs.Borrowed.{members_of}
use Rattle.wire_trees.proofs.MemberLemmas.{found-last}
use Rattle.wire_trees.proofs.borrowed.last_named.Goals as goal

pub returns-then-is_same : goal.returns-then-is_same
returns-then-is_same c =
    let all = c.args.members.now.items in
    let i = c.loop-left.left - 1 in
    let m = c.index-member.result.now in
    let name = c.args.name.now in
    let next : c.loop-left.left ≡ i + 1 = omega arith in
    let front : take c.loop-left.left all ≡ take i all ++ m ∷ [] = ap (λ k. take k all) next ∙ take_more all i m (omega arith) ∙ ap (λ y. take i all ++ y ∷ []) (sym c.index-member.ensures) in
    let same : bytes_eq m.0.now name ≡ true = grind arith in
    sym (c.loop-left.invariant.0 ∙ ap (λ ms. get_member name (members_of ms)) front ∙ found-last name (take i all) m true same)

pub loop-left-preserved : goal.loop-left-preserved
loop-left-preserved c =
    let all = c.args.members.now.items in
    let i = c.loop-left.left - 1 in
    let m = c.index-member.result.now in
    let name = c.args.name.now in
    let next : c.loop-left.left ≡ i + 1 = omega arith in
    let front : take c.loop-left.left all ≡ take i all ++ m ∷ [] = ap (λ k. take k all) next ∙ take_more all i m (omega arith) ∙ ap (λ y. take i all ++ y ∷ []) (sym c.index-member.ensures) in
    let other : bytes_eq m.0.now name ≡ false = grind arith in
    (c.loop-left.invariant.0 ∙ ap (λ ms. get_member name (members_of ms)) front ∙ found-last name (take i all) m false other, omega arith)
