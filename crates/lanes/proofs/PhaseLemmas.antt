-- what lanes answer at the same time in a phase is a course of its lines, one after another
use Rattle.std.proofs.Common.{◌≡◌, ℕ, zero, suc, ◌+◌, ◌<◌, ◌≤◌, ◌⊎◌, List, [], ◌∷◌, ◌++◌, take, drop, length, map, Option, None, Result, Ok, inl, inr, refl, sym, ap, subst, ◌∙◌, append_assoc, arith}
use Rattle.std.specs.List.{list_any}
use Rattle.std.proofs.lemmas.Bool.{cases_lt, or_from, or_parts}
use Rattle.std.proofs.lemmas.List.{append-nil, length-append, length-map, map-append, take-append-drop, take-append-le, take-map, take_all}
use Rattle.wf_event_values.specs.declared.refusal.Refusal.{Refusal}
use Rattle.service_model_types.specs.Replies.{Reply}
use Rattle.service.specs.ServiceViews.{Pass}
use Rattle.wire_requests.specs.declared.calls.Asked.{Asked}
use Rattle.wire_requests.specs.declared.calls.Asked.TheVariants.{Barrier as a_barrier}
use Rattle.script.specs.Output.{numbered_from}
use Rattle.lanes.specs.declared.calls.LineCall.{LineCall}
use Rattle.lanes.specs.declared.lane.Lane.{Lane}
use Rattle.lanes.specs.declared.place.Place.{Place}
use Rattle.lanes.specs.declared.place.Place.TheVariants.{Barrier}
use Rattle.lanes.specs.Answers.{LineReply}
use Rattle.lanes.specs.Calls.{number_at}
use Rattle.lanes.specs.Course.{AllMet, Serves, Meets, InTurn, LineServed, Course}
use Rattle.lanes.specs.Lanes.{Answered, ArePlain, Phase, Took, Waiting, calls_in, calls_of, is_barrier, passes_of, place_in}
use Rattle.lanes.proofs.CallLemmas.{calls-same}
use Rattle.lanes.proofs.PrintLemmas.{numbered-append}
use Rattle.lanes.proofs.TurnLemmas.{turn-append, turn-one, turn-split}
use Rattle.lanes.proofs.PlaceLemmas.{at-map, same-places, there-too}
use Rattle.lanes.proofs.CourseLemmas.{Ready, serve-line}

-- some lines were served, and the others wait
pub record Served (serves : Serves) (meets : Meets) (ps : List Pass) (number : ℕ → ℕ) (front rest : List (Result Asked Refusal)) (rs : List (Option Reply)) (rss : List (List LineReply)) (es : List Pass) : Type 0 where
  pub passes : List Pass
  pub course : Course serves meets ps front rs passes
  pub ready : Ready serves passes (λ i. number (length front + i)) rest rss es

-- the numbers may be told otherwise
ready-as : (serves : Serves) (ps : List Pass) (f g : ℕ → ℕ) (lines : List (Result Asked Refusal)) (rss : List (List LineReply)) (es : List Pass) → ((i : ℕ) → f i ≡ g i) → Ready serves ps f lines rss es → Ready serves ps g lines rss es
ready-as serves ps f g lines rss es same h = record {
  lanes = h.lanes;
  ends = h.ends;
  runs = λ k p rs e at_p at_rs at_e. subst (λ calls. Answered serves p calls rs e) (calls-same k f g lines (λ i below. same i)) (h.runs k p rs e at_p at_rs at_e);
}

pub serve-lines : (serves : Serves) (meets : Meets) (ps : List Pass) (number : ℕ → ℕ) (front rest : List (Result Asked Refusal)) (rs : List (Option Reply)) (rss m : List (List LineReply)) (es : List Pass) → ArePlain front → InTurn Took rss (map place_in front) rs m
    → Ready serves ps number (front ++ rest) rss es → Served serves meets ps number front rest rs m es
serve-lines serves meets ps number [] rest [] rss m es plain t h = record {
  passes = ps;
  course = refl;
  ready = ready-as serves ps number (λ i. number (0 + i)) rest m es (λ i. ap number (let e : i ≡ 0 + i = omega arith in e)) (subst (λ x. Ready serves ps number rest x es) (sym t) h);
}
serve-lines serves meets ps number [] rest (r ∷ rs) rss m es plain t h = absurd t
serve-lines serves meets ps number (line ∷ front) rest [] rss m es plain t h = absurd t
serve-lines serves meets ps number (line ∷ front) rest (r ∷ rs) rss m es plain t h =
    let parts = or_parts (is_barrier (place_in line)) (list_any is_barrier (map place_in front)) plain in
    let one = serve-line serves meets ps number line (front ++ rest) r rss t.0 es parts.0 t.1 h in
    let more = serve-lines serves meets one.passes (λ i. number (suc i)) front rest rs t.0 m es parts.1 t.2 one.ready in
    record {
      passes = more.passes;
      course = (one.passes, one.served, more.course);
      ready = ready-as serves more.passes (λ i. number (suc (length front + i))) (λ i. number (length (line ∷ front) + i)) rest m es (λ i. ap number (let e : suc (length front + i) ≡ length (line ∷ front) + i = omega arith in e)) more.ready;
    }

-- where no line waits, the passes are those of the end
nothing-left : (serves : Serves) (p : Pass) (rs : List LineReply) (e : Pass) → Answered serves p [] rs e → e ≡ p
nothing-left serves p [] e h = h
nothing-left serves p (r ∷ rs) e h = absurd h

pub ready-ends : (serves : Serves) (ps : List Pass) (number : ℕ → ℕ) (rss : List (List LineReply)) (es : List Pass) → Ready serves ps number [] rss es → es ≡ ps
ready-ends serves ps number rss es h = same-places ps es h.ends (λ k p e at_p at_e. let rs = there-too ps rss k p h.lanes at_p in nothing-left serves p rs.0 e (h.runs k p rs.0 e at_p rs.1 at_e))

-- ---- a phase

same-answered : (serves : Serves) (p p' : Pass) (calls calls' : List LineCall) (rs : List LineReply) (e e' : Pass) → p ≡ p' → calls ≡ calls' → e ≡ e' → Answered serves p calls rs e → Answered serves p' calls' rs e'
same-answered serves p p' calls calls' rs e e' is_p is_calls is_e h =
    subst (λ x. Answered serves x calls' rs e') is_p (subst (λ x. Answered serves p x rs e') is_calls (subst (λ x. Answered serves p calls rs x) is_e h))

module _ {Keeper Plan : Type 0} where
  pub ready-phase : (serves : Serves) (first : ℕ) (lines : List (Result Asked Refusal)) (places : List Place) (ls : List (Lane Keeper Plan)) → Waiting first lines places ls → (h : Phase serves ls) → Ready serves (passes_of ls) (number_at first) lines h.replies (passes_of h.worked)
  ready-phase serves first lines places ls w h = record {
    lanes = h.counts ∙ sym (length-map ls (λ (l : Lane Keeper Plan). l.pass));
    ends = length-map h.worked (λ (l : Lane Keeper Plan). l.pass) ∙ h.count ∙ sym (length-map ls (λ (l : Lane Keeper Plan). l.pass));
    runs = λ k p rs e at_p at_rs at_e.
        let x = there-too (passes_of ls) ls k p (sym (length-map ls (λ (l : Lane Keeper Plan). l.pass))) at_p in
        let y = there-too ls h.worked k x.0 h.count x.1 in
        let is_p : x.0.pass ≡ p = at-map (λ (z : Lane Keeper Plan). z.pass) ls k x.0 p x.1 at_p in
        let is_e : y.0.pass ≡ e = at-map (λ (z : Lane Keeper Plan). z.pass) h.worked k y.0 e y.1 at_e in
        same-answered serves x.0.pass p (calls_of x.0) (calls_in k (number_at first) lines) rs y.0.pass e is_p (w.asked k x.0 x.1) is_e (h.each k x.0 rs y.0 x.1 at_rs y.1);
  }

  -- all lines of a phase
  pub phase-whole : (serves : Serves) (meets : Meets) (first : ℕ) (lines : List (Result Asked Refusal)) (places : List Place) (rs : List (Option Reply)) (ls : List (Lane Keeper Plan)) (left : List (List LineReply)) → ArePlain lines → Waiting first lines places ls → (h : Phase serves ls)
      → InTurn Took h.replies (map place_in lines) rs left → Course serves meets (passes_of ls) lines rs (passes_of h.worked)
  phase-whole serves meets first lines places rs ls left plain w h t =
      let r = subst (λ x. Ready serves (passes_of ls) (number_at first) x h.replies (passes_of h.worked)) (sym (append-nil lines)) (ready-phase serves first lines places ls w h) in
      let s = serve-lines serves meets (passes_of ls) (number_at first) lines [] rs h.replies left (passes_of h.worked) plain t r in
      subst (λ x. Course serves meets (passes_of ls) lines rs x) (sym (ready-ends serves s.passes _ left (passes_of h.worked) s.ready)) s.course

-- the replies of lines and of a barrier after them
record BarrierTook (rss : List (List LineReply)) (lines : List (Result Asked Refusal)) (rs : List (Option Reply)) : Type 0 where
  pub before : List (Option Reply)
  pub between : List (List LineReply)
  pub took : InTurn Took rss (map place_in lines) before between
  pub is : rs ≡ before ++ None ∷ []

barrier-took : (rss : List (List LineReply)) (lines : List (Result Asked Refusal)) (rs : List (Option Reply)) (left : List (List LineReply)) → InTurn Took rss (map place_in (lines ++ Ok a_barrier ∷ [])) rs left → BarrierTook rss lines rs
barrier-took rss lines rs left t =
    let parts = turn-split Took rss left (map place_in lines) (Barrier ∷ []) rs (subst (λ x. InTurn Took rss x rs left) (map-append place_in lines (Ok a_barrier ∷ [])) t) in
    record { before = parts.first; between = parts.between; took = parts.before; is = parts.parts ∙ ap (λ x. parts.first ++ x) (none parts.between parts.second parts.behind) }
  where
    none : (xss : List (List LineReply)) (xs : List (Option Reply)) → InTurn Took xss (Barrier ∷ []) xs left → xs ≡ None ∷ []
    none xss [] h = absurd h
    none xss (x ∷ []) h = ap (λ y. y ∷ []) h.1.0
    none xss (x ∷ y ∷ xs) h = absurd h.2

module _ {Keeper Plan : Type 0} where
  -- a phase, and then a barrier, at which the passes met
  pub phase-barrier : (serves : Serves) (meets : Meets) (first : ℕ) (lines : List (Result Asked Refusal)) (places : List Place) (rs : List (Option Reply)) (ls : List (Lane Keeper Plan)) (left : List (List LineReply)) (ends : List Pass) → ArePlain lines → Waiting first lines places ls
      → (h : Phase serves ls) → InTurn Took h.replies (map place_in (lines ++ Ok a_barrier ∷ [])) rs left → AllMet meets (passes_of h.worked) ends → Course serves meets (passes_of ls) (lines ++ Ok a_barrier ∷ []) rs ends
  phase-barrier serves meets first lines places rs ls left ends plain w h t met =
      let b = barrier-took h.replies lines rs left t in
      let course = phase-whole serves meets first lines places b.before ls b.between plain w h b.took in
      rw b.is (turn-append (LineServed serves meets) (passes_of ls) (passes_of h.worked) ends lines (Ok a_barrier ∷ []) b.before (None ∷ []) course
      (turn-one (LineServed serves meets) (passes_of h.worked) ends (Ok a_barrier) None (refl, met)))

plain-take : (n : ℕ) (lines : List (Result Asked Refusal)) → ArePlain lines → ArePlain (take n lines)
plain-take zero lines h = refl
plain-take (suc n) [] h = refl
plain-take (suc n) (line ∷ lines) h =
    let parts = or_parts (is_barrier (place_in line)) (list_any is_barrier (map place_in lines)) h in
    or_from (is_barrier (place_in line)) (list_any is_barrier (map place_in (take n lines))) parts.0 (plain-take n lines parts.1)

-- the first of these lines were served, and have these replies, of which the same is printed as of those
pub record Part (serves : Serves) (meets : Meets) (ps : List Pass) (lines : List (Result Asked Refusal)) (rs : List (Option Reply)) : Type 0 where
  pub front : List (Result Asked Refusal)
  pub rest : List (Result Asked Refusal)
  pub replies : List (Option Reply)
  pub passes : List Pass
  pub parts : lines ≡ front ++ rest
  pub course : Course serves meets ps front replies passes
  pub text : (n : ℕ) → numbered_from n rs ≡ numbered_from n replies

module _ {Keeper Plan : Type 0} where
  pub phase-part : (serves : Serves) (meets : Meets) (first : ℕ) (lines : List (Result Asked Refusal)) (places : List Place) (n : ℕ) (rs : List (Option Reply)) (ls : List (Lane Keeper Plan)) (left : List (List LineReply)) → ArePlain lines → Waiting first lines places ls → (h : Phase serves ls)
      → InTurn Took h.replies (take n (map place_in lines)) rs left → Part serves meets (passes_of ls) lines rs
  phase-part serves meets first lines places n rs ls left plain w h t =
      let r = subst (λ x. Ready serves (passes_of ls) (number_at first) x h.replies (passes_of h.worked)) (sym (take-append-drop n lines)) (ready-phase serves first lines places ls w h) in
      let s = serve-lines serves meets (passes_of ls) (number_at first) (take n lines) (drop n lines) rs h.replies left (passes_of h.worked) (plain-take n lines plain) (subst (λ x. InTurn Took h.replies x rs left) (take-map place_in n lines) t) r in
      record { front = take n lines; rest = drop n lines; replies = rs; passes = s.passes; parts = sym (take-append-drop n lines); course = s.course; text = λ m. refl }

  pub phase-part-barrier : (serves : Serves) (meets : Meets) (first : ℕ) (lines : List (Result Asked Refusal)) (places : List Place) (n : ℕ) (rs : List (Option Reply)) (ls : List (Lane Keeper Plan)) (left : List (List LineReply)) → ArePlain lines → Waiting first lines places ls
      → (h : Phase serves ls) → InTurn Took h.replies (take n (map place_in (lines ++ Ok a_barrier ∷ []))) rs left → Part serves meets (passes_of ls) (lines ++ Ok a_barrier ∷ []) rs
  phase-part-barrier serves meets first lines places n rs ls left plain w h t = go (cases_lt (length lines) n)
    where
      all : List (Result Asked Refusal)
      all = lines ++ Ok a_barrier ∷ []

      go : (length lines < n) ⊎ (n ≤ length lines) → Part serves meets (passes_of ls) all rs
      go (inr within) =
          let front : take n all ≡ take n lines = take-append-le n lines (Ok a_barrier ∷ []) within in
          let is_places : take n (map place_in all) ≡ take n (map place_in lines) = take-map place_in n all ∙ ap (map place_in) front ∙ sym (take-map place_in n lines) in
          let part = phase-part serves meets first lines places n rs ls left plain w h (subst (λ x. InTurn Took h.replies x rs left) is_places t) in
          record {
            front = part.front;
            rest = part.rest ++ Ok a_barrier ∷ [];
            replies = part.replies;
            passes = part.passes;
            parts = ap (λ x. x ++ Ok a_barrier ∷ []) part.parts ∙ append_assoc part.front part.rest (Ok a_barrier ∷ []);
            course = part.course;
            text = part.text;
          }
      go (inl beyond) =
          let long : length all ≤ n = omega (arith, length-append lines (Ok a_barrier ∷ [])) in
          let is_places : take n (map place_in all) ≡ map place_in all = take-map place_in n all ∙ ap (map place_in) (take_all n all long) in
          let b = barrier-took h.replies lines rs left (subst (λ x. InTurn Took h.replies x rs left) is_places t) in
          record {
            front = lines;
            rest = Ok a_barrier ∷ [];
            replies = b.before;
            passes = passes_of h.worked;
            parts = refl;
            course = phase-whole serves meets first lines places b.before ls b.between plain w h b.took;
            text = λ m. ap (numbered_from m) b.is ∙ numbered-append m b.before (None ∷ []) ∙ append-nil (numbered_from m b.before);
          }
