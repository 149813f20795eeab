use Rattle.std.proofs.Common.{◌≡◌, ◌<◌, ◌∙◌, length, Some, None, ap, subst, sym, arith}
use Rattle.json.specs.Json.{after_end_array, read_key}
use Rattle.json.specs.Reads.{token_of}
use Rattle.json.proofs.Grammar.{read_key-shorter}
use Rattle.serde_json.specs.Data.{put}
use Rattle.wire_trees.specs.Borrowed.{AllMarked, data_of, members_of}
use Rattle.wire_trees.specs.Reading.{IsValue}
use Rattle.wire_trees.proofs.MemberLemmas.{data-Array, marked-push, members-push, object-marked}
use Rattle.wire_trees.proofs.ReadingLemmas.{ItemsSoFar, MembersSoFar, items-begun, items-done, items-grow, list-value, members-begun, members-done, members-grow, object-value, scalar-found, value-shorter}
use Rattle.wire_trees.proofs.reading.+value.Goals as goal

pub value-returns-in_default-token : goal.value-returns-in_default-token
value-returns-in_default-token t c = scalar-found c.args.depth (token_of c.in-Some.token) c.next.new.self c.args.reader.now c.scalar.result c.in-Some.ensures.value c.scalar.ensures

pub list-returns : goal.list-returns
list-returns t c =
    let found = c.in_ok-found.found in
    let some : 0 < c.args.depth = omega arith in
    list-value c.args.depth c.args.reader.now _ found.items c.items.new.reader some (data-Array found) c.in_ok-found.ensures

pub object-returns : goal.object-returns
object-returns t c =
    let found = c.in_ok-lengths.found in
    let some : 0 < c.args.depth = omega arith in
    object-value c.args.depth c.args.reader.now _ (members_of found.items) c.members.new.reader some (object-marked c.in_ok-lengths.lengths found c.in_ok-lengths.ensures.1) c.in_ok-lengths.ensures.0

pub items-items-init : goal.items-items-init
items-items-init t c =
    let start = c.args.reader.now in
    subst (λ vs. ItemsSoFar c.args.depth start vs start) (sym c.new-found.ensures.items) (items-begun c.args.depth start)

pub items-items-smaller : goal.items-items-smaller
items-items-smaller t c =
    let l = c.items in
    let v = c.in_ok-item.item in
    let rest = c.value.new.reader in
    let going : (after_end_array l.reader ≡ None) × (c.take_end_array.new.self ≡ l.reader) = grind arith in
    let less : length rest < length c.take_end_array.new.self = value-shorter c.args.depth c.take_end_array.new.self v rest c.in_ok-item.ensures in
    omega (arith, less, ap length going.1)

pub items-items-preserved : goal.items-items-preserved
items-items-preserved t c =
    let l = c.items in
    let v = c.in_ok-item.item in
    let rest = c.value.new.reader in
    let going : (after_end_array l.reader ≡ None) × (c.take_end_array.new.self ≡ l.reader) = grind arith in
    let here = subst (λ ts. IsValue c.args.depth ts v rest) going.1 c.in_ok-item.ensures in
    subst (λ vs. ItemsSoFar c.args.depth c.args.reader.now vs rest) (sym c.in_ok-add.ensures) (items-grow c.args.depth c.args.reader.now l.found.items l.reader v rest l.invariant going.0 here)

pub items-returns : goal.items-returns
items-returns t c =
    let l = c.items in
    items-done c.args.depth c.args.reader.now l.found.items l.reader c.take_end_array.new.self l.invariant (grind arith)

pub members-members-init : goal.members-members-init
members-members-init t c =
    let start = c.args.reader.now in
    subst (λ ms. MembersSoFar c.args.depth start (members_of ms) start × AllMarked 0 ms) (sym c.in_ok-found.ensures.items) (members-begun c.args.depth start, tt)

pub members-members-smaller : goal.members-members-smaller
members-members-smaller t c =
    let l = c.members in
    let behind = c.next_key.new.self in
    let rest = c.value.new.reader in
    let named : read_key l.reader ≡ Some (Some c.in-Ok-Some.key.now, behind) = grind arith in
    let less = value-shorter c.args.depth behind c.in_ok-member.member rest c.in_ok-member.ensures in
    omega (arith, less, read_key-shorter l.reader (Some c.in-Ok-Some.key.now) behind named)

pub members-members-preserved : goal.members-members-preserved
members-members-preserved t c =
    let l = c.members in
    let k = c.in-Ok-Some.key in
    let behind = c.next_key.new.self in
    let v = c.in_ok-member.member in
    let rest = c.value.new.reader in
    let named : read_key l.reader ≡ Some (Some k.now, behind) = grind arith in
    let pushed : members_of c.add.new.list.items ≡ put k.now (data_of v) (members_of l.found.items) = ap members_of c.in_ok-add.ensures ∙ members-push l.found.items (k, v) in
    let more = subst (λ found. MembersSoFar c.args.depth c.args.reader.now found rest) (sym pushed) (members-grow c.args.depth c.args.reader.now (members_of l.found.items) l.reader k.now behind v rest l.invariant.0 named c.in_ok-member.ensures) in
    let marks = marked-push l.lengths c.mark-lengths.result l.found.items (k, v) c.mark-lengths.ensures.kept c.mark-lengths.ensures.marked l.invariant.1 in
    (more, subst (AllMarked c.mark-lengths.result) (sym c.in_ok-add.ensures) marks)

pub members-returns-in-Ok-None : goal.members-returns-in-Ok-None
members-returns-in-Ok-None t c =
    let l = c.members in
    let rest = c.next_key.new.self in
    let closed : read_key l.reader ≡ Some (None, rest) = grind arith in
    (members-done c.args.depth c.args.reader.now (members_of l.found.items) l.reader rest l.invariant.0 closed, l.invariant.1)
