-- what is printed line by line
use Rattle.std.proofs.Common.{◌≡◌, ℕ, zero, suc, ◌+◌, ◌<◌, min, List, [], ◌∷◌, ◌++◌, take, length, get_or, Bool, true, false, ◌||◌, Option, Some, inl, inr, refl, sym, ap, subst, ◌∙◌, append_assoc, arith}
use Rattle.std.proofs.lemmas.List.{append-nil, take_all, take_more, length-take-le}
use Rattle.std.specs.List.{list_any}
use Rattle.std.specs.Io.KnownBytes.{Keeps}
use Rattle.wire_counted.specs.Written.{AppendsBeginning}
use Rattle.wire_counted.proofs.Known.{Appends-keeps, Appends-none, Appends-then, beginning_behind, beginning_of_all, beginning_of_nothing}
use Rattle.service_model_types.specs.Replies.{Reply}
use Rattle.script.specs.Serving.{is_refusal, text_of}
use Rattle.script.specs.Output.{numbered_from}
use Rattle.lanes.specs.declared.lane.Lane.{Lane}
use Rattle.lanes.specs.declared.place.Place.{Place}
use Rattle.lanes.specs.declared.place.Place.TheVariants.{InLane}
use Rattle.lanes.specs.Answers.{LineReply}
use Rattle.lanes.specs.Course.{InTurn}
use Rattle.lanes.specs.Lanes.{AllLeft, Took}
use Rattle.lanes.specs.Numbers.{AreNumbered, IsNext}
use Rattle.lanes.specs.Printed.{Begun, BegunIn, Printed, PrintedOne}
use Rattle.lanes.proofs.RepliedLemmas.{next-at}
use Rattle.lanes.proofs.TurnLemmas.{turn-append, turn-count, turn-one}

pub numbered-append : (n : ℕ) (rs ss : List (Option Reply)) → numbered_from n (rs ++ ss) ≡ numbered_from n rs ++ numbered_from (n + length rs) ss
numbered-append n [] ss = ap (λ m. numbered_from m ss) (let e : n ≡ n + 0 = omega arith in e)
numbered-append n (r ∷ rs) ss =
    ap (λ t. text_of n r ++ t) (numbered-append (n + 1) rs ss ∙ ap (λ m. numbered_from (n + 1) rs ++ numbered_from m ss) (let e : n + 1 + length rs ≡ n + suc (length rs) = omega arith in e))
    ∙ sym (append_assoc (text_of n r) (numbered_from (n + 1) rs) (numbered_from (n + suc (length rs)) ss))

pub any-append : (rs ss : List (Option Reply)) → list_any is_refusal (rs ++ ss) ≡ (list_any is_refusal rs || list_any is_refusal ss)
any-append [] ss = refl
any-append (r ∷ rs) ss = ap (λ b. is_refusal r || b) (any-append rs ss) ∙ sym (or-assoc (is_refusal r) (list_any is_refusal rs) (list_any is_refusal ss))
  where
    or-assoc : (a b c : Bool) → ((a || b) || c) ≡ (a || (b || c))
    or-assoc true b c = refl
    or-assoc false b c = refl

or-false : (b : Bool) → (b || false) ≡ b
or-false true = refl
or-false false = refl

module _ {Keeper Plan : Type 0} where
  -- nothing was printed yet
  pub printed-none : (first : ℕ) (rss : List (List LineReply)) (ls : List (Lane Keeper Plan)) (held : Option (List ℕ)) → AllLeft ls rss → Printed first [] rss ls false held held
  printed-none first rss ls held h = record { replies = []; left = rss; took = refl; kept = h; written = Appends-none held; refused_is = refl }

-- nothing of some lines was printed
pub begun-none : (first : ℕ) (ps : List Place) (rss : List (List LineReply)) (held : Option (List ℕ)) → Begun first ps rss held held
begun-none first ps rss held = record { count = 0; replies = []; left = rss; took = refl; written = beginning_of_nothing held [] }

-- a beginning of one line was printed
pub begun-one : (number : ℕ) (p : Place) (reply : Option Reply) (rss left : List (List LineReply)) (held held' : Option (List ℕ)) → Took rss p reply left → AppendsBeginning held held' (text_of number reply) → Begun number (p ∷ []) rss held held'
begun-one number p reply rss left held held' took written = record {
  count = 1;
  replies = reply ∷ [];
  left = left;
  took = turn-one Took rss left p reply took;
  written = subst (AppendsBeginning held held') (sym (append-nil (text_of number reply))) written;
}

-- a beginning of a call's line was printed, or nothing of it
pub begun-in : (number : ℕ) (lane : ℕ) (rss : List (List LineReply)) (held held' : Option (List ℕ)) → BegunIn number lane rss held held' → Begun number (InLane lane ∷ []) rss held held'
begun-in number lane rss held held' (inl same) = subst (λ x. Begun number (InLane lane ∷ []) rss held x) (sym same) (begun-none number (InLane lane ∷ []) rss held)
begun-in number lane rss held held' (inr b) = begun-one number (InLane lane) (Some b.reply) rss b.left held held' b.took b.written

module _ {Keeper Plan : Type 0} where
  -- one line more was printed
  pub printed-more : (first number i : ℕ) (ps : List Place) (p : Place) (b c : Bool) (rss : List (List LineReply)) (l1 l2 : List (Lane Keeper Plan)) (h0 h1 h2 : Option (List ℕ)) → i < length ps → p ≡ get_or ps i p → number ≡ first + i
      → AreNumbered first ps rss → Printed first (take i ps) rss l1 b h0 h1 → ((left : List (List LineReply)) → AllLeft l1 left → IsNext p number left → PrintedOne number p left l2 c h1 h2)
      → Printed first (take (i + 1) ps) rss l2 (b || c) h0 h2
  printed-more first number i ps p b c rss l1 l2 h0 h1 h2 below is counts numbered h step =
      let k = step h.left h.kept (next-at first number i ps p rss h.left h.replies below is counts numbered h.took) in
      let grows : take (i + 1) ps ≡ take i ps ++ p ∷ [] = take_more ps i p below ∙ ap (λ x. take i ps ++ x ∷ []) (sym is) in
      let count : i ≡ length h.replies = sym (length-take-le i ps (omega arith)) ∙ turn-count Took rss h.left (take i ps) h.replies h.took in
      let place : number ≡ first + length h.replies = counts ∙ ap (λ n. first + n) count in
      record {
        replies = h.replies ++ k.reply ∷ [];
        left = k.left;
        took = subst (λ x. InTurn Took rss x (h.replies ++ k.reply ∷ []) k.left) (sym grows) (turn-append Took rss h.left k.left (take i ps) (p ∷ []) h.replies (k.reply ∷ []) h.took (turn-one Took h.left k.left p k.reply k.took));
        kept = k.kept;
        written = rw (numbered-append first h.replies (k.reply ∷ []), append-nil (text_of (first + length h.replies) k.reply), ← place) (Appends-then h0 h1 h2 (numbered_from first h.replies) (text_of number k.reply) h.written k.written);
        refused_is = ap (λ x. x || c) h.refused_is ∙ ap (λ x. list_any is_refusal h.replies || x) (k.refused_is ∙ sym (or-false (is_refusal k.reply))) ∙ sym (any-append h.replies (k.reply ∷ []));
      }

take-none : (n : ℕ) → take {A = Place} n [] ≡ []
take-none zero = refl
take-none (suc n) = refl

module _ {Keeper Plan : Type 0} where
  -- all lines before one were printed, and a beginning of that one
  pub begun-at : (first number i : ℕ) (ps : List Place) (p : Place) (b : Bool) (rss : List (List LineReply)) (l1 : List (Lane Keeper Plan)) (h0 h1 h2 : Option (List ℕ)) → i < length ps → p ≡ get_or ps i p → number ≡ first + i
      → AreNumbered first ps rss → Printed first (take i ps) rss l1 b h0 h1 → ((left : List (List LineReply)) → AllLeft l1 left → IsNext p number left → Begun number (p ∷ []) left h1 h2) → Begun first ps rss h0 h2
  begun-at first number i ps p b rss l1 h0 h1 h2 below is counts numbered h step =
      let k = step h.left h.kept (next-at first number i ps p rss h.left h.replies below is counts numbered h.took) in
      let grows : take (i + 1) ps ≡ take i ps ++ p ∷ [] = take_more ps i p below ∙ ap (λ x. take i ps ++ x ∷ []) (sym is) in
      let count : i ≡ length h.replies = sym (length-take-le i ps (omega arith)) ∙ turn-count Took rss h.left (take i ps) h.replies h.took in
      let place : number ≡ first + length h.replies = counts ∙ ap (λ n. first + n) count in
      record {
        count = i + min 1 k.count;
        replies = h.replies ++ k.replies;
        left = k.left;
        took = subst (λ x. InTurn Took rss x (h.replies ++ k.replies) k.left) (sym (one-more k.count grows)) (turn-append Took rss h.left k.left (take i ps) (take k.count (p ∷ [])) h.replies k.replies h.took k.took);
        written = rw (numbered-append first h.replies k.replies, ← place) (beginning_behind h0 h1 h2 (numbered_from first h.replies) (numbered_from number k.replies) h.written k.written);
      }
    where
      one-more : (n : ℕ) → take (i + 1) ps ≡ take i ps ++ p ∷ [] → take (i + min 1 n) ps ≡ take i ps ++ take n (p ∷ [])
      one-more zero grows = ap (λ k. take k ps) (let e : i + min 1 0 ≡ i = omega arith in e) ∙ sym (append-nil (take i ps))
      one-more (suc n) grows = ap (λ k. take k ps) (let e : i + min 1 (suc n) ≡ i + 1 = omega arith in e) ∙ grows ∙ ap (λ x. take i ps ++ p ∷ x) (sym (take-none n))

  -- all of them were printed
  pub begun-all : (first : ℕ) (ps : List Place) (b : Bool) (rss : List (List LineReply)) (ls' : List (Lane Keeper Plan)) (h0 h1 h2 : Option (List ℕ)) → Printed first ps rss ls' b h0 h1 → Keeps h1 h2 → Begun first ps rss h0 h2
  begun-all first ps b rss ls' h0 h1 h2 h keeps = record {
    count = length ps;
    replies = h.replies;
    left = h.left;
    took = subst (λ x. InTurn Took rss x h.replies h.left) (sym (take_all (length ps) ps (omega arith))) h.took;
    written = beginning_of_all h0 h2 (numbered_from first h.replies) (Appends-keeps h0 h1 h2 (numbered_from first h.replies) h.written keeps);
  }
