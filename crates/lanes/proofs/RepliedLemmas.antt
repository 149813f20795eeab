-- the replies that lanes have left are those to their own lines, in order
use Rattle.std.proofs.Common.{◌≡◌, ℕ, zero, suc, ◌+◌, ◌<◌, ◌⊎◌, ◌^◌, List, [], ◌∷◌, ◌++◌, take, drop, length, map, set, slice_get, get_or, cond, eqb, Option, None, Some, Result, inl, inr, refl, sym, ap, subst, ◌∙◌, arith}
use Rattle.std.proofs.lemmas.Bool.{cases_eq, eq-eqb, eqb-true, false_from_ne_true}
use Rattle.std.proofs.lemmas.List.{length-map, length-take-le, take-append-drop}
use Rattle.std.proofs.lemmas.Option.{none-some, same_Some}
use Rattle.wf_event_values.specs.declared.refusal.Refusal.{Refusal}
use Rattle.service_model_types.specs.Replies.{Reply}
use Rattle.service.specs.ServiceViews.{Pass}
use Rattle.wire_requests.specs.declared.calls.Asked.{Asked}
use Rattle.lanes.specs.declared.calls.LineCall.{LineCall}
use Rattle.lanes.specs.declared.lane.Lane.{Lane}
use Rattle.lanes.specs.declared.place.Place.{Place}
use Rattle.lanes.specs.declared.place.Place.TheVariants.{Barrier, Refused, InLane}
use Rattle.lanes.specs.Answers.{LineReply}
use Rattle.lanes.specs.Calls.{number_at}
use Rattle.lanes.specs.Course.{Serves, InTurn}
use Rattle.lanes.specs.Lanes.{Answered, Phase, Took, TookIn, Waiting, calls_of, place_in}
use Rattle.lanes.specs.Numbers.{AreNumbered, HaveNumbers, IsNext, numbers_in}
use Rattle.lanes.proofs.CallLemmas.{calls-numbers, line_of, number-within}
use Rattle.lanes.proofs.PlaceLemmas.{get-other, get-set, there-too}

-- ---- what lanes answered

-- each reply has the number of its call's line
answered-numbers : (serves : Serves) (p : Pass) (calls : List LineCall) (rs : List LineReply) (p' : Pass) → Answered serves p calls rs p' → HaveNumbers rs (map line_of calls)
answered-numbers serves p [] [] p' h = tt
answered-numbers serves p [] (r ∷ rs) p' h = absurd h
answered-numbers serves p (c ∷ calls) [] p' h = tt
answered-numbers serves p (c ∷ calls) (r ∷ rs) p' h = (h.1.0, answered-numbers serves h.0 calls rs p' h.2)

module _ {Keeper Plan : Type 0} where
  -- so have those of a phase, where these lines waited
  pub phase-numbered : (serves : Serves) (first : ℕ) (lines : List (Result Asked Refusal)) (ps : List Place) (ls : List (Lane Keeper Plan)) → first + length ps < 2 ^ 64 → (h : Phase serves ls) → Waiting first lines ps ls → AreNumbered first ps h.replies
  phase-numbered serves first lines ps ls fits h w k rs at =
      let x = there-too h.replies ls k rs (sym h.counts) at in
      let y = there-too h.replies h.worked k rs (h.count ∙ sym h.counts) at in
      let own = answered-numbers serves x.0.pass (calls_of x.0) rs y.0.pass (h.each k x.0 rs y.0 x.1 at y.1) in
      let count : length ps ≡ length lines = ap length w.places ∙ length-map lines place_in in
      let numbers : map line_of (calls_of x.0) ≡ numbers_in k first ps =
      ap (map line_of) (w.asked k x.0 x.1) ∙ calls-numbers k (number_at first) first lines (λ i below. number-within first i (omega (arith, fits, count, below))) ∙ ap (numbers_in k first) (sym w.places) in
      subst (HaveNumbers rs) numbers own

-- ---- the next reply

-- the numbers of a lane's lines, where the first line is its own or another's
numbers-own : (lane k n : ℕ) (ps : List Place) → lane ≡ k → numbers_in k n (InLane lane ∷ ps) ≡ n ∷ numbers_in k (n + 1) ps
numbers-own lane k n ps own = ap (λ b. cond b (n ∷ []) [] ++ numbers_in k (n + 1) ps) (eq-eqb lane k own)

numbers-other : (lane k n : ℕ) (ps : List Place) → ¬ (lane ≡ k) → numbers_in k n (InLane lane ∷ ps) ≡ numbers_in k (n + 1) ps
numbers-other lane k n ps other = ap (λ b. cond b (n ∷ []) [] ++ numbers_in k (n + 1) ps) (false_from_ne_true (eqb lane k) (λ e. other (eqb-true lane k e)))

pub next-numbered : (n : ℕ) (p : Place) (ps : List Place) (rss : List (List LineReply)) → AreNumbered n (p ∷ ps) rss → IsNext p n rss
next-numbered n Barrier ps rss h = tt
next-numbered n (Refused refusal) ps rss h = tt
next-numbered n (InLane lane) ps rss h = λ r rs at. (subst (HaveNumbers (r ∷ rs)) (numbers-own lane lane n ps refl) (h lane (r ∷ rs) at)).0

-- ---- the replies after it

lane-taken : (n lane : ℕ) (ps : List Place) (o : Option (List LineReply)) (rss rss' : List (List LineReply)) (r : Option Reply) → slice_get rss lane ≡ o → AreNumbered n (InLane lane ∷ ps) rss → TookIn lane o rss r rss' → AreNumbered (n + 1) ps rss'
lane-taken n lane ps None rss rss' r is h t = subst (AreNumbered (n + 1) ps) (sym t.1) (λ k rs at.
    subst (HaveNumbers rs) (numbers-other lane k n ps (λ own. none-some rs (sym is ∙ ap (slice_get rss) own ∙ at))) (h k rs at))
lane-taken n lane ps (Some xs) rss rss' r is h t = subst (AreNumbered (n + 1) ps) (sym t.lanes) (λ k rs at. by-place k rs at (cases_eq lane k))
  where
    by-place : (k : ℕ) (rs : List LineReply) → slice_get (set rss lane t.rest) k ≡ Some rs → (lane ≡ k) ⊎ (¬ (lane ≡ k)) → HaveNumbers rs (numbers_in k (n + 1) ps)
    by-place k rs at (inl own) =
        let rest : t.rest ≡ rs = same_Some t.rest rs (sym (get-set rss lane xs t.rest is) ∙ ap (slice_get (set rss lane t.rest)) own ∙ at) in
        let all : HaveNumbers (t.reply ∷ t.rest) (n ∷ numbers_in k (n + 1) ps) =
        subst (HaveNumbers (t.reply ∷ t.rest)) (numbers-own lane k n ps own) (subst (λ x. HaveNumbers x (numbers_in k n (InLane lane ∷ ps))) t.first (h k xs (ap (slice_get rss) (sym own) ∙ is))) in
        subst (λ x. HaveNumbers x (numbers_in k (n + 1) ps)) rest all.1
    by-place k rs at (inr other) = subst (HaveNumbers rs) (numbers-other lane k n ps other) (h k rs (sym (get-other rss lane k t.rest other) ∙ at))

one-taken : (n : ℕ) (p : Place) (ps : List Place) (rss rss' : List (List LineReply)) (r : Option Reply) → AreNumbered n (p ∷ ps) rss → Took rss p r rss' → AreNumbered (n + 1) ps rss'
one-taken n Barrier ps rss rss' r h t = subst (AreNumbered (n + 1) ps) (sym t.1) h
one-taken n (Refused refusal) ps rss rss' r h t = subst (AreNumbered (n + 1) ps) (sym t.1) h
one-taken n (InLane lane) ps rss rss' r h t = lane-taken n lane ps (slice_get rss lane) rss rss' r refl h t

some-taken : (n : ℕ) (xs ys : List Place) (rss left : List (List LineReply)) (replies : List (Option Reply)) → AreNumbered n (xs ++ ys) rss → InTurn Took rss xs replies left → AreNumbered (n + length xs) ys left
some-taken n [] ys rss left [] h t = subst (λ m. AreNumbered m ys left) (let e : n ≡ n + 0 = omega arith in e) (subst (AreNumbered n ys) (sym t) h)
some-taken n [] ys rss left (r ∷ replies) h t = absurd t
some-taken n (x ∷ xs) ys rss left [] h t = absurd t
some-taken n (x ∷ xs) ys rss left (r ∷ replies) h t =
    subst (λ m. AreNumbered m ys left) (let e : n + 1 + length xs ≡ n + length (x ∷ xs) = omega arith in e) (some-taken (n + 1) xs ys t.0 left replies (one-taken n x (xs ++ ys) rss t.0 r h t.1) t.2)

-- a list from a place on
drop-here : (i : ℕ) (ps : List Place) (p : Place) → i < length ps → p ≡ get_or ps i p → drop i ps ≡ p ∷ drop (i + 1) ps
drop-here i [] p below is = absurd (omega (arith, below))
drop-here zero (x ∷ ps) p below is = ap (λ y. y ∷ ps) (sym is)
drop-here (suc i) (x ∷ ps) p below is = drop-here i ps p (omega (arith, below)) is ∙ ap (λ n. p ∷ drop n (x ∷ ps)) (let e : suc (i + 1) ≡ suc i + 1 = omega arith in e)

-- after some lines the next reply is the one to the next line
pub next-at : (first number i : ℕ) (ps : List Place) (p : Place) (rss left : List (List LineReply)) (replies : List (Option Reply)) → i < length ps → p ≡ get_or ps i p → number ≡ first + i → AreNumbered first ps rss → InTurn Took rss (take i ps) replies left → IsNext p number left
next-at first number i ps p rss left replies below is counts h t =
    let parts : AreNumbered first (take i ps ++ drop i ps) rss = subst (λ x. AreNumbered first x rss) (sym (take-append-drop i ps)) h in
    let count : first + length (take i ps) ≡ number = ap (λ n. first + n) (length-take-le i ps (omega (arith, below))) ∙ sym counts in
    let rest : AreNumbered number (p ∷ drop (i + 1) ps) left = subst (λ x. AreNumbered number x left) (drop-here i ps p below is) (subst (λ m. AreNumbered m (drop i ps) left) count (some-taken first (take i ps) (drop i ps) rss left replies parts t)) in
    next-numbered number p (drop (i + 1) ps) left rest
