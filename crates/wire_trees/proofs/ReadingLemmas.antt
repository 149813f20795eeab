-- what the reader of borrowed values has read is what the grammar of JSON reads there
use Rattle.std.proofs.Common.{◌≡◌, ℕ, ◌-◌, ◌<◌, ◌≤◌, ◌^◌, List, [], ◌∷◌, ◌++◌, length, map, Option, None, Some, option_map, option_and_then, decimal, refl, sym, ap, subst, ◌∙◌, arith}
use Rattle.std.specs.Prelude.{Result, Ok, Err, IfOk}
use Rattle.std.specs.Option.{IfSome}
use Rattle.std.specs.Result.{result_ok}
use Rattle.std.specs.Str.Parse.{AllDigits, ParsesUnsigned, digits_value}
use Rattle.std.proofs.lemmas.Fmt.{decimal-digits_value}
use Rattle.std.proofs.lemmas.Str.Parse.{numerals_by_value, tells_digits, without_leading_plus_none}
use Rattle.json.specs.Json as json
use Rattle.json.specs.Json.{Items, Json, Members, after_end_array, items, members, no_items, item, no_members, member, parse_map, read_key, value}
use Rattle.json.specs.Token.{Token}
use Rattle.json.proofs.Grammar.{items_end, items_more, left, members_end, members_more, read_key-shorter, skip_value-shorter, value-begin_array, value-begin_object, value_is}
use Rattle.serde_json.specs.Data as tree
use Rattle.serde_json.specs.Data.{put, unsigned}
use Rattle.serde_json.specs.Read.{number_of, of_items, of_json, of_members}
use Rattle.serde_json.specs.View.{items_of}
use Rattle.serde_json.proofs.Numbers.{number_of-decimal}
use Rattle.wire_trees.specs.Borrowed.{data_of}
use Rattle.wire_trees.specs.Reading.{AreItems, AreMembers, BeginsPlainly, IsScalar, IsValue, scalar_of}
use Rattle.wire_trees.specs.declared.borrowed.BorrowedValue.{BorrowedValue}
use Rattle.wire_trees.specs.declared.reading.Unread.{Unread}

-- the plain digits of a number are that number
pub number-read : (text : List ℕ) (n : ℕ) → text ≡ decimal n → n < 2 ^ 64 → number_of text ≡ Some (unsigned n)
number-read text n is fits = ap number_of is ∙ number_of-decimal n fits

-- digits that begin plainly, and that parse as a number, are its plain digits
pub digits-read : {E : Type 0} (text : List ℕ) (r : Result ℕ E) → BeginsPlainly text → ParsesUnsigned 64 10 text r → IfSome (result_ok r) (λ n. number_of text ≡ Some (unsigned n))
digits-read text (Err e) plain parses = tt
digits-read text (Ok n) plain parses =
    let bare = without_leading_plus_none text plain.bare in
    let digits : AllDigits 10 text = subst (AllDigits 10) bare parses.0.0.1 in
    let same : n ≡ digits_value 10 text = parses.1 ∙ ap (digits_value 10) bare in
    let small : n < 2 ^ 64 = omega (arith, parses.0.1, parses.1) in
    let below : digits_value 10 text < 2 ^ 64 = omega (arith, small, same) in
    number-read text n (sym (ap decimal same ∙ decimal-digits_value (numerals_by_value _ tells_digits) text digits plain.some plain.lead below)) small

-- a token that opens nothing is its value, at any depth
scalar-read : (depth : ℕ) (t : Token) (rest : List Token) (j : Json) → scalar_of t ≡ Some j → value depth (t ∷ rest) ≡ Some (j, rest)
scalar-read depth (Token.string s) rest j is = value_is depth (Token.string s ∷ rest) ∙ ap (option_map (λ x. (x, rest))) is
scalar-read depth (Token.number s) rest j is = value_is depth (Token.number s ∷ rest) ∙ ap (option_map (λ x. (x, rest))) is
scalar-read depth (Token.boolean b) rest j is = value_is depth (Token.boolean b ∷ rest) ∙ ap (option_map (λ x. (x, rest))) is
scalar-read depth Token.null rest j is = value_is depth (Token.null ∷ rest) ∙ ap (option_map (λ x. (x, rest))) is
scalar-read depth Token.begin_object rest j is = absurd cc
scalar-read depth Token.end_object rest j is = absurd cc
scalar-read depth Token.begin_array rest j is = absurd cc
scalar-read depth Token.end_array rest j is = absurd cc
scalar-read depth (Token.key s) rest j is = absurd cc
scalar-read depth Token.bad rest j is = absurd cc

pub scalar-value : (depth : ℕ) (t : Token) (rest : List Token) (v : BorrowedValue) → IsScalar t v → IsValue depth (t ∷ rest) v rest
scalar-value depth t rest v s = record { json = s.0; parsed = scalar-read depth t rest s.0 s.1; is = s.2 }

-- fewer tokens are left after a value
pub value-shorter : (depth : ℕ) (ts : List Token) (v : BorrowedValue) (rest : List Token) → IsValue depth ts v rest → length rest < length ts
value-shorter depth ts v rest h = skip_value-shorter depth ts rest (ap left h.parsed)

-- ---- the items so far: what is read of the tokens that are left, `front` puts after them

-- items after those so far
abbrev pub before : List BorrowedValue → tree.Items → tree.Items
before [] rest = rest
before (v ∷ vs) rest = tree.item (data_of v) (before vs rest)

before-end : (vs : List BorrowedValue) → before vs tree.no_items ≡ items_of (map data_of vs)
before-end [] = refl
before-end (v ∷ vs) = ap (tree.item (data_of v)) (before-end vs)

before-push : (vs : List BorrowedValue) (v : BorrowedValue) (rest : tree.Items) → before vs (tree.item (data_of v) rest) ≡ before (vs ++ v ∷ []) rest
before-push [] v rest = refl
before-push (w ∷ vs) v rest = ap (tree.item (data_of w)) (before-push vs v rest)

pub record ItemsSoFar (depth : ℕ) (start : List Token) (found : List BorrowedValue) (ts : List Token) : Type 0 where
  pub front : Items → Items
  pub turns : ℕ
  pub enough : length ts ≤ turns
  pub parsed : items (value depth) (length start) start ≡ parse_map front (items (value depth) turns ts)
  pub is : (rest : Items) → of_items (front rest) ≡ option_map (before found) (of_items rest)

items-none : (r : Option (Items × List Token)) → r ≡ parse_map (λ is. is) r
items-none None = refl
items-none (Some p) = refl

all-none : (o : Option tree.Items) → o ≡ option_map (before []) o
all-none None = refl
all-none (Some is) = refl

pub items-begun : (depth : ℕ) (start : List Token) → ItemsSoFar depth start [] start
items-begun depth start = record {
  front = λ is. is;
  turns = length start;
  enough = omega arith;
  parsed = items-none (items (value depth) (length start) start);
  is = λ rest. all-none (of_items rest);
}

items-twice : (f g : Items → Items) (r : Option (Items × List Token)) → parse_map f (parse_map g r) ≡ parse_map (λ is. f (g is)) r
items-twice f g None = refl
items-twice f g (Some p) = refl

item-of : (vs : List BorrowedValue) (j : Json) (v : BorrowedValue) (o : Option tree.Items) → option_map (before vs) (option_map (tree.item (data_of v)) o) ≡ option_map (before (vs ++ v ∷ [])) o
item-of vs j v None = refl
item-of vs j v (Some rest) = ap Some (before-push vs v rest)

-- one item more
pub items-grow : (depth : ℕ) (start : List Token) (found : List BorrowedValue) (ts : List Token) (v : BorrowedValue) (rest : List Token) → ItemsSoFar depth start found ts → after_end_array ts ≡ None → IsValue depth ts v rest → ItemsSoFar depth start (found ++ v ∷ []) rest
items-grow depth start found ts v rest s going h =
    let j = h.json in
    let less : length rest < length ts = value-shorter depth ts v rest h in
    record {
      front = λ is. s.front (item j is);
      turns = s.turns - 1;
      enough = omega (arith, s.enough, less);
      parsed = s.parsed
          ∙ ap (parse_map s.front) (items_more (value depth) s.turns ts rest j (omega (arith, s.enough, less)) going h.parsed)
          ∙ items-twice s.front (item j) (items (value depth) (s.turns - 1) rest);
      is = λ is. s.is (item j is) ∙ ap (λ o. option_map (before found) (option_and_then (λ d. option_map (tree.item d) (of_items is)) o)) h.is ∙ item-of found j v (of_items is);
    }

pub items-done : (depth : ℕ) (start : List Token) (found : List BorrowedValue) (ts rest : List Token) → ItemsSoFar depth start found ts → after_end_array ts ≡ Some rest → AreItems depth start found rest
items-done depth start found ts rest s closed = record {
  all = s.front no_items;
  parsed = s.parsed ∙ ap (parse_map s.front) (items_end (value depth) s.turns ts rest s.enough closed);
  is = s.is no_items ∙ ap Some (before-end found);
}

-- ---- the members so far

pub record MembersSoFar (depth : ℕ) (start : List Token) (found : tree.Members) (ts : List Token) : Type 0 where
  pub front : Members → Members
  pub turns : ℕ
  pub enough : length ts ≤ turns
  pub parsed : members (value depth) (length start) start ≡ parse_map front (members (value depth) turns ts)
  pub is : (ms : Members) → of_members (front ms) tree.no_members ≡ of_members ms found

members-none : (r : Option (Members × List Token)) → r ≡ parse_map (λ ms. ms) r
members-none None = refl
members-none (Some p) = refl

pub members-begun : (depth : ℕ) (start : List Token) → MembersSoFar depth start tree.no_members start
members-begun depth start = record {
  front = λ ms. ms;
  turns = length start;
  enough = omega arith;
  parsed = members-none (members (value depth) (length start) start);
  is = λ ms. refl;
}

members-twice : (f g : Members → Members) (r : Option (Members × List Token)) → parse_map f (parse_map g r) ≡ parse_map (λ ms. f (g ms)) r
members-twice f g None = refl
members-twice f g (Some p) = refl

member-of : (k : List ℕ) (j : Json) (ms : Members) (d : tree.Data) (found : tree.Members) → of_json j ≡ Some d → of_members (member k j ms) found ≡ of_members ms (put k d found)
member-of k j ms d found is = ap (option_and_then (λ x. of_members ms (put k x found))) is

-- one member more
pub members-grow : (depth : ℕ) (start : List Token) (found : tree.Members) (ts : List Token) (k : List ℕ) (behind : List Token) (v : BorrowedValue) (rest : List Token) → MembersSoFar depth start found ts → read_key ts ≡ Some (Some k, behind) → IsValue depth behind v rest → MembersSoFar depth start (put k (data_of v) found) rest
members-grow depth start found ts k behind v rest s named h =
    let j = h.json in
    let less : length rest < length ts = omega (arith, read_key-shorter ts (Some k) behind named, value-shorter depth behind v rest h) in
    record {
      front = λ ms. s.front (member k j ms);
      turns = s.turns - 1;
      enough = omega (arith, s.enough, less);
      parsed = s.parsed
          ∙ ap (parse_map s.front) (members_more (value depth) s.turns k ts behind rest j (omega (arith, s.enough, less)) named h.parsed)
          ∙ members-twice s.front (member k j) (members (value depth) (s.turns - 1) rest);
      is = λ ms. s.is (member k j ms) ∙ member-of k j ms (data_of v) found h.is;
    }

pub members-done : (depth : ℕ) (start : List Token) (found : tree.Members) (ts rest : List Token) → MembersSoFar depth start found ts → read_key ts ≡ Some (None, rest) → AreMembers depth start found rest
members-done depth start found ts rest s closed = record {
  all = s.front no_members;
  parsed = s.parsed ∙ ap (parse_map s.front) (members_end (value depth) s.turns ts rest s.enough closed);
  is = s.is no_members;
}

-- ---- lists and objects as values

pub list-value : (depth : ℕ) (ts : List Token) (v : BorrowedValue) (vs : List BorrowedValue) (rest : List Token) → 0 < depth → data_of v ≡ tree.array (items_of (map data_of vs)) → AreItems (depth - 1) ts vs rest → IsValue depth (Token.begin_array ∷ ts) v rest
list-value depth ts v vs rest some seen h = record {
  json = json.array h.all;
  parsed = value-begin_array depth ts some ∙ ap (parse_map json.array) h.parsed;
  is = ap (option_map tree.array) h.is ∙ ap Some (sym seen);
}

pub object-value : (depth : ℕ) (ts : List Token) (v : BorrowedValue) (ms : tree.Members) (rest : List Token) → 0 < depth → data_of v ≡ tree.object ms → AreMembers (depth - 1) ts ms rest → IsValue depth (Token.begin_object ∷ ts) v rest
object-value depth ts v ms rest some seen h = record {
  json = json.object h.all;
  parsed = value-begin_object depth ts some ∙ ap (parse_map json.object) h.parsed;
  is = ap (option_map tree.object) h.is ∙ ap Some (sym seen);
}

-- what a token that opens nothing gives
pub scalar-found : (depth : ℕ) (t : Token) (rest ts : List Token) (r : Result BorrowedValue Unread) → ts ≡ t ∷ rest → IfOk r (IsScalar t) → IfOk r (λ v. IsValue depth ts v rest)
scalar-found depth t rest ts (Ok v) is h = let P : List Token → Type 0 = λ ts. IsValue depth ts v rest in subst P (sym is) (scalar-value depth t rest v h)
scalar-found depth t rest ts (Err e) is h = tt
