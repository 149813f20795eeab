-- What a pass finds in two looks, one after the other, and what it pushes after one.
use Rattle.std.proofs.Common.{◌≡◌, inl, inr, ℕ, ◌<◌, ◌≤◌, List, ◌++◌, length, append_assoc, arith, refl, ap, ◌∙◌, subst}
use Rattle.std.specs.Prelude.{Result, Ok, Err, MatchResult}
use Rattle.service_model_types.specs.declared.request.Hint.{Hint}
use Rattle.crossbeam_queue.specs.Fifo.{Held}
use Rattle.matching.specs.declared.view.View.{View}
use Rattle.matching.specs.Entries.{Begins, Entry, FromGiven, FromShards, by}
use Rattle.matching.specs.Moments.{IsMoment}
use Rattle.matching.specs.PassSteps.{FindsMany, HadRoom, Puts, Sees, with_put, with_seen}
use Rattle.matching.specs.Rings.{FoundRoom, HasLooked}

begins-on : (a b c : List Entry) → Begins a b → Begins b c → Begins a c
begins-on a b c h k = (h.0 ++ k.0, k.1 ∙ ap (λ (l : List Entry). l ++ k.0) h.1 ∙ append_assoc a h.0 k.0)

-- a moment of a pass that looked is one of the pass before
moment-after : (v u : View) (before : List Hint) (put taken : List Entry) (waiting : List Hint) → Sees v before u → IsMoment u put taken waiting → IsMoment v put taken waiting
moment-after v u before put taken waiting s m =
    let is = s.knows in
    record {
      split = m.split;
      seen_put = begins-on v.put s.put put s.moment.seen_put (subst (λ (x : View). Begins x.put put) is m.seen_put);
      seen_taken = begins-on v.taken s.taken taken s.moment.seen_taken (subst (λ (x : View). Begins x.taken taken) is m.seen_taken);
      own_put = subst (λ (x : View). by x.number put ≡ x.pushed) is m.own_put;
      own_taken = subst (λ (x : View). by x.number taken ≡ x.popped) is m.own_taken;
      given_put = subst (λ (x : View). FromGiven x.given put) is m.given_put;
      given_taken = subst (λ (x : View). FromGiven x.given taken) is m.given_taken;
      shards = subst (λ (x : View). FromShards x.shards waiting) is m.shards;
    }

pub sees-after : (v u w : View) (before waiting : List Hint) → Sees v before u → Sees u waiting w → Sees v waiting w
sees-after v u w before waiting s t = record {
  put = t.put;
  taken = t.taken;
  moment = moment-after v u before t.put t.taken waiting s t.moment;
  knows = t.knows ∙ ap (λ (x : View). with_seen x t.put t.taken) s.knows;
}

pub puts-after : (v u w : View) (before : List Hint) (x : Hint) → Sees v before u → Puts u x w → Puts v x w
puts-after v u w before x s p = record {
  put = p.put;
  taken = p.taken;
  waiting = p.waiting;
  moment = moment-after v u before p.put p.taken p.waiting s p.moment;
  room = subst (λ (y : View). length p.waiting < y.capacity) s.knows p.room;
  knows = p.knows ∙ ap (λ (y : View). with_put y p.put p.taken x) s.knows;
}

-- ---- one look more

pub looked-more : (v u w : View) (n : ℕ) → HasLooked v u → Held n (λ waiting. Sees u waiting w) → Held n (λ waiting. Sees v waiting w)
looked-more v u w n (inl is) h = subst (λ (x : View). Held n (λ waiting. Sees x waiting w)) is h
looked-more v u w n (inr s) h = (h.0, h.1, sees-after v u w s.0 h.0 s.1 h.2)

-- ---- a push after a look

pub puts-found : (v u w : View) (most : ℕ) (x : Hint) → FoundRoom v most u → Puts u x w → Puts v x w × HadRoom v most
puts-found v u w most x (inl same) p =
    let q : Puts v x w = subst (λ (y : View). Puts y x w) same.1 p in
    (q, (q.waiting, with_seen v q.put q.taken, subst (λ (n : ℕ). length q.waiting < n) same.0 q.room, record { put = q.put; taken = q.taken; moment = q.moment; knows = refl }))
puts-found v u w most x (inr s) p = (puts-after v u w s.0 x s.2 p, (s.0, u, s.1, s.2))

pub full-found : (v u w : View) (most n : ℕ) → FoundRoom v most u → most ≤ n → n ≡ v.capacity → Held n (λ waiting. Sees u waiting w) → FindsMany v most w
full-found v u w most n found many room h = (n, many, omega (arith, room), by_look found)
  where
    by_look : FoundRoom v most u → Held n (λ waiting. Sees v waiting w)
    by_look (inl same) = subst (λ (y : View). Held n (λ waiting. Sees y waiting w)) same.1 h
    by_look (inr s) = (h.0, h.1, sees-after v u w s.0 h.0 s.2 h.2)

-- what a push comes to
pub pushed-found : (v u w : View) (most n : ℕ) (x : Hint) (r : Result (Unit {0}) Hint) → FoundRoom v most u → most ≤ n → n ≡ v.capacity
    → MatchResult r (λ _. Puts u x w) (λ y. (y ≡ x) × Held n (λ waiting. Sees u waiting w))
    → MatchResult r (λ _. Puts v x w × HadRoom v most) (λ y. (y ≡ x) × FindsMany v most w)
pushed-found v u w most n x (Ok done) found many room h = puts-found v u w most x found h
pushed-found v u w most n x (Err y) found many room h = (h.0, full-found v u w most n found many room h.1)
