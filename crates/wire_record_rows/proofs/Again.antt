-- the compact text of a plain value reads as the value
use Rattle.std.proofs.Common.{◌≡◌, ℕ, zero, suc, ◌<◌, ◌≤◌, List, [], ◌∷◌, ◌++◌, Some, None, refl, sym, ap, ap₂, ◌∙◌, subst, arith, append-nil, max, option_and_then, option_map, Ordering, Less, Equal, Greater}
use Rattle.std.proofs.lemmas.Cmp.{nat_list_cmp_total}
use Rattle.std.specs.Cmp.Lexicographic.{slice_cmp}
use Rattle.std.specs.Ordering.{nat_cmp, ordering_reverse, match_ordering}
use Rattle.std.specs.Prelude.{⊤}
use Rattle.json.specs.Lex.{tokens}
use Rattle.json.specs.Print.{print}
use Rattle.json.specs.Json as json
use Rattle.json.specs.Tree as tree
use Rattle.json.specs.Tree.{json_tokens, HasNumbers, ItemsHaveNumbers, MembersHaveNumbers}
use Rattle.json.proofs.Printed.Decimals.{IsNumber-decimal}
use Rattle.json.proofs.Printed.Tokens.{tokens-print}
use Rattle.json.proofs.Printed.Trees.{value-json_tokens, ArePrintable-json_tokens}
use Rattle.serde_json.specs.Data.{Num, unsigned, negative, float, Data, null, boolean, number, string, array, object, Items, no_items, item, Members, no_members, member, put}
use Rattle.serde_json.specs.Read.{read, of_json, of_items, of_members, max_depth}
use Rattle.serde_json.specs.Written.{outline, items_outline, members_outline, compact_text}
use Rattle.serde_json.proofs.Numbers.{number_of-decimal}
use Rattle.serde_json.proofs.Texts.{print-outline}
use Rattle.wire_record_rows.specs.Plain.{IsWhole, IsBelow, IsPlain, ArePlain, AreMembers}

-- ---- members that go in one after another

abbrev join : Members → Members → Members
join no_members ms = ms
join (member k d ns) ms = member k d (join ns ms)

join_more : (found : Members) (k : List ℕ) (d : Data) (ms : Members) → join (join found (member k d no_members)) ms ≡ join found (member k d ms)
join_more no_members k d ms = refl
join_more (member l e ns) k d ms = ap (member l e) (join_more ns k d ms)

-- each key of the first is below all of the second
abbrev AreBelow : Members → Members → Type 0
AreBelow no_members ms = ⊤
AreBelow (member k d ns) ms = IsBelow k ms × AreBelow ns ms

put_last : (found : Members) (k : List ℕ) (d : Data) (ms : Members) → AreBelow found (member k d ms) → put k d found ≡ join found (member k d no_members)
put_last no_members k d ms h = refl
put_last (member l e ns) k d ms h =
    let above : slice_cmp nat_cmp k l ≡ Greater = nat_list_cmp_total.antisymm k l ∙ ap ordering_reverse h.0.0 in
    rw above (ap (member l e) (put_last ns k d ms h.1))

below_more : (found : Members) (k : List ℕ) (d : Data) (ms : Members) → AreBelow found (member k d ms) → IsBelow k ms → AreBelow (join found (member k d no_members)) ms
below_more no_members k d ms h rest = (rest, tt)
below_more (member l e ns) k d ms h rest = (h.0.1, below_more ns k d ms h.1 rest)

none_below : (ms : Members) → AreBelow no_members ms
none_below ms = tt

joined : (found : Members) → found ≡ join found no_members
joined no_members = refl
joined (member k d ms) = ap (member k d) (joined ms)

mutual
  value_again : (n : ℕ) (d : Data) → IsPlain n d → of_json (outline d) ≡ Some d
  value_again n null h = refl
  value_again n (boolean b) h = refl
  value_again n (number (unsigned x)) h = ap (option_map number) (number_of-decimal x h)
  value_again n (number (negative z)) h = absurd h
  value_again n (number (float x)) h = absurd h
  value_again n (string s) h = refl
  value_again zero (array ds) h = absurd h
  value_again (suc n) (array ds) h = ap (option_map array) (items_again n ds h)
  value_again zero (object ms) h = absurd h
  value_again (suc n) (object ms) h = ap (option_map object) (members_again n ms no_members h tt)

  items_again : (n : ℕ) (ds : Items) → ArePlain n ds → of_items (items_outline ds) ≡ Some ds
  items_again n no_items h = refl
  items_again n (item d ds) h = rw (value_again n d h.0, items_again n ds h.1) refl

  members_again : (n : ℕ) (ms found : Members) → AreMembers n ms → AreBelow found ms → of_members (members_outline ms) found ≡ Some (join found ms)
  members_again n no_members found h b = ap Some (joined found)
  members_again n (member k d ms) found h b =
      ap (option_and_then (λ e. of_members (members_outline ms) (put k e found))) (value_again n d h.1)
      ∙ ap (of_members (members_outline ms)) (put_last found k d ms b)
      ∙ members_again n ms (join found (member k d no_members)) h.2 (below_more found k d ms b h.0)
      ∙ ap Some (join_more found k d ms)

-- ---- its numbers have digits, and it nests no deeper

mutual
  numbers : (n : ℕ) (d : Data) → IsPlain n d → HasNumbers (outline d)
  numbers n null h = tt
  numbers n (boolean b) h = tt
  numbers n (number (unsigned x)) h = IsNumber-decimal x h
  numbers n (number (negative z)) h = absurd h
  numbers n (number (float x)) h = absurd h
  numbers n (string s) h = tt
  numbers zero (array ds) h = absurd h
  numbers (suc n) (array ds) h = items_numbers n ds h
  numbers zero (object ms) h = absurd h
  numbers (suc n) (object ms) h = members_numbers n ms h

  items_numbers : (n : ℕ) (ds : Items) → ArePlain n ds → ItemsHaveNumbers (items_outline ds)
  items_numbers n no_items h = tt
  items_numbers n (item d ds) h = (numbers n d h.0, items_numbers n ds h.1)

  members_numbers : (n : ℕ) (ms : Members) → AreMembers n ms → MembersHaveNumbers (members_outline ms)
  members_numbers n no_members h = tt
  members_numbers n (member k d ms) h = (numbers n d h.1, members_numbers n ms h.2)

mutual
  shallow : (n : ℕ) (d : Data) → IsPlain n d → tree.depth (outline d) ≤ n
  shallow n null h = omega arith
  shallow n (boolean b) h = omega arith
  shallow n (number x) h = omega arith
  shallow n (string s) h = omega arith
  shallow zero (array ds) h = absurd h
  shallow (suc n) (array ds) h = omega (arith, items_shallow n ds h)
  shallow zero (object ms) h = absurd h
  shallow (suc n) (object ms) h = omega (arith, members_shallow n ms h)

  items_shallow : (n : ℕ) (ds : Items) → ArePlain n ds → tree.items_depth (items_outline ds) ≤ n
  items_shallow n no_items h = omega arith
  items_shallow n (item d ds) h = omega (arith, shallow n d h.0, items_shallow n ds h.1)

  members_shallow : (n : ℕ) (ms : Members) → AreMembers n ms → tree.members_depth (members_outline ms) ≤ n
  members_shallow n no_members h = omega arith
  members_shallow n (member k d ms) h = omega (arith, shallow n d h.1, members_shallow n ms h.2)

-- the law
pub reads_again : (n : ℕ) (d : Data) → n ≤ 127 → IsPlain n d → read (compact_text d) ≡ Some d
reads_again n d within h =
    let lexed : tokens (compact_text d) ≡ json_tokens (outline d) = ap tokens (sym (print-outline d)) ∙ tokens-print (json_tokens (outline d)) (ArePrintable-json_tokens (outline d) (numbers n d h)) in
    ap (λ o. option_and_then of_json (option_and_then (λ p. json.if_last p.0 p.1) o))
    (ap (json.value max_depth) (lexed ∙ sym (append-nil (json_tokens (outline d)))) ∙ value-json_tokens (outline d) max_depth [] (omega (arith, shallow n d h)))
    ∙ value_again n d h
