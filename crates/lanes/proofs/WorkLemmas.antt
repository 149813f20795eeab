-- a lane's calls: asked, made, and their replies taken
use Rattle.std.proofs.Common.{◌≡◌, ℕ, zero, suc, ◌+◌, drop, map, ◌<◌, ◌≤◌, ◌⊎◌, List, [], ◌∷◌, ◌++◌, length, set, slice_get, cond, eqb, Some, true, false, Result, Ok, Err, OnOk, OnErr, is_err, inl, inr, refl, sym, ap, subst, ◌∙◌, append_assoc, arith}
use Rattle.std.proofs.lemmas.Bool.{cases_eq, eq-eqb, eqb-true, false_from_ne_true}
use Rattle.std.proofs.lemmas.List.{append-nil, length-map, map-append}
use Rattle.std.proofs.lemmas.Option.{get_or_from_slice_get, none-some, same_Some, slice_get_past, slice_get_within}
use Rattle.std.proofs.Math.Seq.{map-set_same}
use Rattle.wf_event_values.specs.declared.field.Field.TheVariants as field
use Rattle.wf_event_values.specs.declared.refusal.Refusal.{Refusal}
use Rattle.wf_event_values.specs.declared.refusal.Refusal.TheVariants.{InvalidArgument}
use Rattle.service_model_types.specs.Replies.{Reply}
use Rattle.service.specs.ServiceViews.{Pass}
use Rattle.wire_requests.specs.declared.calls.Asked.{Asked}
use Rattle.wire_requests.specs.declared.calls.Asked.TheVariants.{Barrier as a_barrier}
use Rattle.lanes.specs.declared.answer.Answer.{Answer}
use Rattle.lanes.specs.declared.calls.LineCall.{LineCall}
use Rattle.lanes.specs.declared.lane.Lane.{Lane}
use Rattle.lanes.specs.declared.place.Place.{Place}
use Rattle.lanes.specs.declared.replies.Replies.{Replies}
use Rattle.lanes.specs.Answers.{AreKept, AreLines, IsLine, KeepsLines, LineReply, Wrote}
use Rattle.lanes.specs.Calls.{number_at}
use Rattle.lanes.specs.Course.{Serves, InTurn}
use Rattle.lanes.specs.Lanes.{AllLeft, Answered, AreIdle, EachWorked, HasMore, IsBehind, Left, Made, Makes, TookIn, Waiting, WereAsked, Worked, Working, calls_in, calls_of, only_in, own_calls, passes_of, place_in}
use Rattle.lanes.proofs.AnswerLemmas.{lines-none}
use Rattle.lanes.proofs.CallLemmas.{calls-append, calls-push}
use Rattle.lanes.proofs.PlaceLemmas.{get-other, get-set, map-at, there-too}
use Rattle.lanes.proofs.TurnLemmas.{turn-append, turn-one}

-- ---- calls that are made

module _ {Keeper Plan : Type 0} where
  -- no call was made yet
  pub working-none : (serves : Serves) (l : Lane Keeper Plan) → l.taken ≡ 0 → l.replies.answers.items ≡ [] → Working serves l l
  working-none serves l taken none = record { done = []; replies = []; parts = refl; turns = refl; kept = lines-none l.replies.text.items l.replies.answers.items none; taken = taken }

  -- one more was made
  pub working-more : (serves : Serves) (l m l' : Lane Keeper Plan) (next : LineCall) (reply : Reply) → Working serves l m → calls_of m ≡ next ∷ calls_of l' → serves m.pass l'.pass next.call reply → Wrote next.line reply m.replies l'.replies → l'.taken ≡ m.taken → Working serves l l'
  working-more serves l m l' next reply h calls served wrote taken = record {
    done = h.done ++ next ∷ [];
    replies = h.replies ++ r ∷ [];
    parts = h.parts ∙ ap (λ x. h.done ++ x) calls ∙ sym (append_assoc h.done (next ∷ []) (calls_of l'));
    turns = turn-append (Makes serves) l.pass m.pass l'.pass h.done (next ∷ []) h.replies (r ∷ []) h.turns (turn-one (Makes serves) m.pass l'.pass next r (refl, served));
    kept = wrote h.replies h.kept;
    taken = taken ∙ h.taken;
  }
    where
      r : LineReply
      r = record { number = next.line; reply = reply }

-- the calls that were answered, and those that were not
answered-of : (serves : Serves) (p m p' : Pass) (done rest : List LineCall) (rs : List LineReply) → InTurn (Makes serves) p done rs m → (rest ≡ [] → p' ≡ m) → Answered serves p (done ++ rest) rs p'
answered-of serves p m p' [] [] [] h last = last refl ∙ h
answered-of serves p m p' [] (c ∷ rest) [] h last = tt
answered-of serves p m p' [] rest (r ∷ rs) h last = absurd h
answered-of serves p m p' (c ∷ done) rest [] h last = absurd h
answered-of serves p m p' (c ∷ done) rest (r ∷ rs) h last = (h.0, h.1, answered-of serves h.0 m p' done rest rs h.2 last)

module _ {Keeper Plan : Type 0} where
  -- no more are made
  pub made-all : (serves : Serves) (l m l' : Lane Keeper Plan) → Working serves l m → l'.pass ≡ m.pass → l'.replies ≡ m.replies → l'.taken ≡ m.taken → Made serves l l'
  made-all serves l m l' h pass replies taken = record {
    replies = h.replies;
    answered = subst (λ calls. Answered serves l.pass calls h.replies l'.pass) (sym h.parts) (answered-of serves l.pass m.pass l'.pass h.done (calls_of m) h.replies h.turns (λ e. pass));
    kept = subst (λ x. AreKept x h.replies) (sym replies) h.kept;
    taken = taken ∙ h.taken;
  }

  -- memory ran out at one of them
  pub made-some : (serves : Serves) (l m l' : Lane Keeper Plan) (next : LineCall) (rest : List LineCall) → Working serves l m → calls_of m ≡ next ∷ rest → KeepsLines m.replies l'.replies → l'.taken ≡ m.taken → Made serves l l'
  made-some serves l m l' next rest h some kept taken = record {
    replies = h.replies;
    answered = subst (λ calls. Answered serves l.pass calls h.replies l'.pass) (sym h.parts)
        (answered-of serves l.pass m.pass l'.pass h.done (calls_of m) h.replies h.turns (λ none. absurd (omega (arith, ap length (sym none ∙ some)))));
    kept = kept h.replies h.kept;
    taken = taken ∙ h.taken;
  }

-- ---- calls that wait

module _ {Keeper Plan : Type 0} where
  -- no lane was asked anything
  pub asked-none : (calls : ℕ → List LineCall) (ls : List (Lane Keeper Plan)) → ((k : ℕ) → k < length ls → calls k ≡ []) → WereAsked calls ls ls
  asked-none calls ls none = record {
    passes = refl;
    each = λ k l at. record {
      before = l;
      there = at;
      asked = sym (append-nil (calls_of l)) ∙ ap (λ more. calls_of l ++ more) (sym (none k (slice_get_within ls k l at)));
    };
  }

  -- a lane that is not there
  pub asked-past : (lane : ℕ) (c : LineCall) (ls : List (Lane Keeper Plan)) → length ls ≤ lane → WereAsked (only_in lane c) ls ls
  asked-past lane c ls past = asked-none (only_in lane c) ls (λ k below. ap (λ b. cond b (c ∷ []) []) (false_from_ne_true (eqb lane k) (λ e. let same : lane ≡ k = eqb-true lane k e in absurd (omega arith))))

  -- one lane was asked one call
  pub asked-in : (lane : ℕ) (c : LineCall) (ls : List (Lane Keeper Plan)) (l l' : Lane Keeper Plan) → slice_get ls lane ≡ Some l → l'.pass ≡ l.pass → calls_of l' ≡ calls_of l ++ c ∷ [] → WereAsked (only_in lane c) ls (set ls lane l')
  asked-in lane c ls l l' at pass asked = record {
    passes = map-set_same (λ (x : Lane Keeper Plan). x.pass) ls lane l' l (pass ∙ ap (λ (x : Lane Keeper Plan). x.pass) (sym (get_or_from_slice_get ls lane l l at)));
    each = λ k m at_m. by-place k m at_m (cases_eq lane k);
  }
    where
      by-place : (k : ℕ) (m : Lane Keeper Plan) → slice_get (set ls lane l') k ≡ Some m → (lane ≡ k) ⊎ (¬ (lane ≡ k)) → HasMore (only_in lane c k) ls k m
      by-place k m at_m (inl own) =
          let is : l' ≡ m = same_Some l' m (sym (get-set ls lane l l' at) ∙ ap (slice_get (set ls lane l')) own ∙ at_m) in
          record {
            before = l;
            there = ap (slice_get ls) (sym own) ∙ at;
            asked = ap calls_of (sym is) ∙ asked ∙ ap (λ b. calls_of l ++ cond b (c ∷ []) []) (sym (eq-eqb lane k own));
          }
      by-place k m at_m (inr other) = record {
        before = m;
        there = sym (get-other ls lane k l' other) ∙ at_m;
        asked = sym (append-nil (calls_of m)) ∙ ap (λ b. calls_of m ++ cond b (c ∷ []) []) (sym (false_from_ne_true (eqb lane k) (λ e. other (eqb-true lane k e))));
      }

  -- the same calls, told otherwise
  pub asked-as : (calls more : ℕ → List LineCall) (ls ls' : List (Lane Keeper Plan)) → ((k : ℕ) → calls k ≡ more k) → WereAsked calls ls ls' → WereAsked more ls ls'
  asked-as calls more ls ls' same were = record {
    passes = were.passes;
    each = λ k l at.
        let m = were.each k l at in
        record { before = m.before; there = m.there; asked = m.asked ∙ ap (λ x. calls_of m.before ++ x) (same k) };
  }

  -- no line waits
  pub waiting-none : (first : ℕ) (ls : List (Lane Keeper Plan)) → AreIdle ls → Waiting first [] [] ls
  waiting-none first ls idle = record { places = refl; asked = idle }

  -- one line more waits
  pub waiting-more : (first : ℕ) (lines : List (Result Asked Refusal)) (ask : Result Asked Refusal) (ps ps' : List Place) (ls ls' : List (Lane Keeper Plan)) → ps' ≡ ps ++ place_in ask ∷ [] → WereAsked (λ k. own_calls k (number_at first (length ps)) ask) ls ls'
      → Waiting first lines ps ls → Waiting first (lines ++ ask ∷ []) ps' ls'
  waiting-more first lines ask ps ps' ls ls' places were w = record {
    places = places ∙ ap (λ x. x ++ place_in ask ∷ []) w.places ∙ sym (map-append place_in lines (ask ∷ []));
    asked = λ k l at.
        let m = were.each k l at in
        m.asked ∙ ap (λ x. x ++ own_calls k (number_at first (length ps)) ask) (w.asked k m.before m.there)
        ∙ ap (λ n. calls_in k (number_at first) lines ++ own_calls k (number_at first n) ask) (ap length w.places ∙ length-map lines place_in) ∙ sym (calls-push k (number_at first) lines ask);
  }

  -- more lines wait
  pub waiting-all : (first : ℕ) (lines asks : List (Result Asked Refusal)) (ps ps' : List Place) (ls ls' : List (Lane Keeper Plan)) → ps' ≡ ps ++ map place_in asks → WereAsked (λ k. calls_in k (λ i. number_at first (length ps + i)) asks) ls ls'
      → Waiting first lines ps ls → Waiting first (lines ++ asks) ps' ls'
  waiting-all first lines asks ps ps' ls ls' places were w = record {
    places = places ∙ ap (λ x. x ++ map place_in asks) w.places ∙ sym (map-append place_in lines asks);
    asked = λ k l at.
        let m = were.each k l at in
        m.asked ∙ ap (λ x. x ++ calls_in k (λ i. number_at first (length ps + i)) asks) (w.asked k m.before m.there)
        ∙ ap (λ n. calls_in k (number_at first) lines ++ calls_in k (λ i. number_at first (n + i)) asks) (ap length w.places ∙ length-map lines place_in) ∙ sym (calls-append k (number_at first) lines asks);
  }

  -- a barrier asks nothing of any lane
  pub waiting-same : (first n : ℕ) (lines : List (Result Asked Refusal)) (ps : List Place) (ls ls' : List (Lane Keeper Plan)) → WereAsked (λ k. own_calls k n (Ok a_barrier)) ls ls' → Waiting first lines ps ls → Waiting first lines ps ls'
  waiting-same first n lines ps ls ls' were w = record {
    places = w.places;
    asked = λ k l at.
        let m = were.each k l at in
        m.asked ∙ append-nil (calls_of m.before) ∙ w.asked k m.before m.there;
  }

-- ---- replies that are taken

-- from a lane that is not there
pub took-past : (lane : ℕ) (rss : List (List LineReply)) → length rss ≤ lane → TookIn lane (slice_get rss lane) rss (Some (Err (InvalidArgument field.Lane))) rss
took-past lane rss past = subst (λ o. TookIn lane o rss (Some (Err (InvalidArgument field.Lane))) rss) (sym (slice_get_past rss lane past)) (refl, refl)

-- from a lane that is there
pub took-first : (lane : ℕ) (rss : List (List LineReply)) (rs rest : List LineReply) (reply : LineReply) → slice_get rss lane ≡ Some rs → rs ≡ reply ∷ rest → TookIn lane (slice_get rss lane) rss (Some reply.reply) (set rss lane rest)
took-first lane rss rs rest reply at first = subst (λ o. TookIn lane o rss (Some reply.reply) (set rss lane rest)) (sym at) (record { reply = reply; rest = rest; is = refl; first = first; lanes = refl })

-- a list from a place on
drop-at : {A : Type 0} (xs : List A) (n : ℕ) (x : A) → slice_get xs n ≡ Some x → drop n xs ≡ x ∷ drop (n + 1) xs
drop-at [] n x at = absurd (none-some x at)
drop-at (y ∷ xs) zero x at = ap (λ z. z ∷ xs) (same_Some y x at)
drop-at (y ∷ xs) (suc n) x at = drop-at xs n x at ∙ ap (λ k. x ∷ drop k (y ∷ xs)) (let e : suc (n + 1) ≡ suc n + 1 = omega arith in e)

module _ {Keeper Plan : Type 0} where
  pub left-count : (ls : List (Lane Keeper Plan)) (rss : List (List LineReply)) → AllLeft ls rss → length rss ≡ length ls
  left-count [] [] h = refl
  left-count [] (rs ∷ rss) h = absurd h
  left-count (l ∷ ls) [] h = absurd h
  left-count (l ∷ ls) (rs ∷ rss) h = ap suc (left-count ls rss h.1)

  -- what a lane has left
  pub left-at : (ls : List (Lane Keeper Plan)) (rss : List (List LineReply)) (k : ℕ) (l : Lane Keeper Plan) → AllLeft ls rss → slice_get ls k ≡ Some l → (rs : List LineReply) × (slice_get rss k ≡ Some rs) × Left l rs
  left-at [] rss k l h at = absurd (none-some l at)
  left-at (x ∷ ls) [] k l h at = absurd h
  left-at (x ∷ ls) (rs ∷ rss) zero l h at = (rs, refl, subst (λ (y : Lane Keeper Plan). Left y rs) (same_Some x l at) h.0)
  left-at (x ∷ ls) (rs ∷ rss) (suc k) l h at = left-at ls rss k l h.1 at

  pub left-set : (ls : List (Lane Keeper Plan)) (rss : List (List LineReply)) (k : ℕ) (l : Lane Keeper Plan) (rs : List LineReply) → AllLeft ls rss → Left l rs → AllLeft (set ls k l) (set rss k rs)
  left-set [] [] k l rs h one = tt
  left-set [] (s ∷ rss) k l rs h one = absurd h
  left-set (x ∷ ls) [] k l rs h one = absurd h
  left-set (x ∷ ls) (s ∷ rss) zero l rs h one = (one, h.1)
  left-set (x ∷ ls) (s ∷ rss) (suc k) l rs h one = (h.0, left-set ls rss k l rs h.1 one)

  -- the first reply that a lane has left
  pub record First (a : Answer) (l l' : Lane Keeper Plan) (rs : List LineReply) : Type 0 where
    pub reply : LineReply
    pub rest : List LineReply
    pub first : rs ≡ reply ∷ rest
    pub line : IsLine l'.replies.text.items a reply
    pub left : Left l' rest

  pub left-first : (l l' : Lane Keeper Plan) (at : ℕ) (a : Answer) (rs : List LineReply) → IsBehind at l l' → l'.replies ≡ l.replies → slice_get l'.replies.answers.items at ≡ Some a → Left l rs → First a l l' rs
  left-first l l' at a rs b same there h = go rs now
    where
      text : List ℕ
      text = l'.replies.text.items

      here : drop at l'.replies.answers.items ≡ a ∷ drop l'.taken l'.replies.answers.items
      here = drop-at l'.replies.answers.items at a there ∙ ap (λ n. a ∷ drop n l'.replies.answers.items) (sym b.is)

      now : AreLines text (a ∷ drop l'.taken l'.replies.answers.items) rs
      now = subst (λ xs. AreLines text xs rs) here (subst (λ n. AreLines text (drop n l'.replies.answers.items) rs) b.was (subst (λ (x : Replies). AreLines x.text.items (drop l.taken x.answers.items) rs) (sym same) h))

      go : (rs : List LineReply) → AreLines text (a ∷ drop l'.taken l'.replies.answers.items) rs → First a l l' rs
      go [] k = absurd k
      go (r ∷ rest) k = record { reply = r; rest = rest; first = refl; line = k.0; left = k.1 }

  -- what each lane answered
  pub record Collected (serves : Serves) (ls ls' : List (Lane Keeper Plan)) : Type 0 where
    pub replies : List (List LineReply)
    pub counts : length replies ≡ length ls
    pub each : (k : ℕ) (l : Lane Keeper Plan) (rs : List LineReply) (l' : Lane Keeper Plan) → slice_get ls k ≡ Some l → slice_get replies k ≡ Some rs → slice_get ls' k ≡ Some l' → Answered serves l.pass (calls_of l) rs l'.pass
    pub left : AllLeft ls' replies
    pub idle : AreIdle ls'

  pub collect : (serves : Serves) (ls ls' : List (Lane Keeper Plan)) → length ls' ≡ length ls → EachWorked serves ls ls' → Collected serves ls ls'
  collect serves [] [] count h = record { replies = []; counts = refl; each = λ k l rs l' at at_rs at'. absurd (none-some l at); left = tt; idle = λ k l at. absurd (none-some l at) }
  collect serves [] (l' ∷ ls') count h = absurd (omega (arith, count))
  collect serves (l ∷ ls) [] count h = absurd (omega (arith, count))
  collect serves (l ∷ ls) (l' ∷ ls') count h =
      let one : Worked serves l l' = h 0 l (omega arith) in
      let more = collect serves ls ls' (omega (arith, count)) (λ k d below. h (suc k) d (omega (arith, below))) in
      record {
        replies = one.made.replies ∷ more.replies;
        counts = ap suc more.counts;
        each = λ k x rs x' at at_rs at'. by_place one more k x rs x' at at_rs at';
        left = (subst (λ n. AreLines l'.replies.text.items (drop n l'.replies.answers.items) one.made.replies) (sym one.made.taken) one.made.kept, more.left);
        idle = λ k x at. idle-by one more k x at;
      }
    where
      by_place : (one : Worked serves l l') (more : Collected serves ls ls') (k : ℕ) (x : Lane Keeper Plan) (rs : List LineReply) (x' : Lane Keeper Plan) → slice_get (l ∷ ls) k ≡ Some x → slice_get (one.made.replies ∷ more.replies) k ≡ Some rs → slice_get (l' ∷ ls') k ≡ Some x'
          → Answered serves x.pass (calls_of x) rs x'.pass
      by_place one more zero x rs x' at at_rs at' =
          rw (← same_Some l x at, ← same_Some one.made.replies rs at_rs, ← same_Some l' x' at') one.made.answered
      by_place one more (suc k) x rs x' at at_rs at' = more.each k x rs x' at at_rs at'

      idle-by : (one : Worked serves l l') (more : Collected serves ls ls') (k : ℕ) (x : Lane Keeper Plan) → slice_get (l' ∷ ls') k ≡ Some x → calls_of x ≡ []
      idle-by one more zero x at = ap calls_of (sym (same_Some l' x at)) ∙ one.asked
      idle-by one more (suc k) x at = more.idle k x at

  -- lanes that have the same calls as lanes that have none
  pub idle-same : (ls ls' : List (Lane Keeper Plan)) → map calls_of ls' ≡ map calls_of ls → AreIdle ls → AreIdle ls'
  idle-same ls ls' same idle k l at =
      let count : length ls' ≡ length ls = sym (length-map ls' calls_of) ∙ ap length same ∙ length-map ls calls_of in
      let x = there-too ls' ls k l (sym count) at in
      same_Some (calls_of l) (calls_of x.0) (sym (map-at calls_of ls' k l at) ∙ ap (λ zs. slice_get zs k) same ∙ map-at calls_of ls k x.0 x.1) ∙ idle k x.0 x.1

-- ---- a call that may have failed

pub when_err : {T E : Type 0} (r : Result T E) (P : Type 0) → is_err r ≡ true → OnErr r P → P
when_err (Ok x) P is h = absurd (cc)
when_err (Err e) P is h = h

pub when_ok : {T E : Type 0} (r : Result T E) (P : Type 0) → is_err r ≡ false → OnOk r P → P
when_ok (Ok x) P is h = h
when_ok (Err e) P is h = absurd (cc)

pub then_ok : {T E : Type 0} (r : Result T E) (P Q : Type 0) → OnOk r P → (P → Q) → OnOk r Q
then_ok (Ok x) P Q h f = f h
then_ok (Err e) P Q h f = tt

-- ---- lanes that have nothing to do

module _ {Keeper Plan : Type 0} where
  pub idle-none : (ls : List (Lane Keeper Plan)) → ls ≡ [] → AreIdle ls
  idle-none ls none = λ k l at. absurd (none-some l (sym (ap (λ xs. slice_get xs k) none) ∙ at))

  idle-behind : (xs : List (Lane Keeper Plan)) (l : Lane Keeper Plan) → calls_of l ≡ [] → AreIdle xs → (k : ℕ) (x : Lane Keeper Plan) → slice_get (xs ++ l ∷ []) k ≡ Some x → calls_of x ≡ []
  idle-behind [] l asked h zero x at = let is : l ≡ x = same_Some l x at in ap calls_of (sym is) ∙ asked
  idle-behind [] l asked h (suc k) x at = absurd (none-some x at)
  idle-behind (y ∷ xs) l asked h zero x at = h zero x at
  idle-behind (y ∷ xs) l asked h (suc k) x at = idle-behind xs l asked (λ n o at_n. h (suc n) o at_n) k x at

  pub idle-push : (ls ls' : List (Lane Keeper Plan)) (l : Lane Keeper Plan) → ls' ≡ ls ++ l ∷ [] → calls_of l ≡ [] → AreIdle ls → AreIdle ls'
  idle-push ls ls' l grows asked idle = subst AreIdle (sym grows) (idle-behind ls l asked idle)

  -- a pass got its lane
  pub passes-push : (ls ls' : List (Lane Keeper Plan)) (l : Lane Keeper Plan) (p : Pass) (it rest all : List Pass) → ls' ≡ ls ++ l ∷ [] → l.pass ≡ p → it ≡ p ∷ rest → passes_of ls ++ it ≡ all → passes_of ls' ++ rest ≡ all
  passes-push ls ls' l p it rest all grows pass it_is h =
      ap (λ x. passes_of x ++ rest) grows ∙ ap (λ x. x ++ rest) (map-append (λ (o : Lane Keeper Plan). o.pass) ls (l ∷ [])) ∙ append_assoc (passes_of ls) (l.pass ∷ []) rest
      ∙ ap (λ q. passes_of ls ++ q ∷ rest) pass ∙ ap (λ x. passes_of ls ++ x) (sym it_is) ∙ h
