-- A ticket drawn keeps the rule.
use Rattle.std.proofs.Common.{◌≡◌, ◌⊎◌, inr, ℕ, ◌+◌, ◌%◌, ◌<◌, List, [], length, map, get_or, set, refl, sym, ap, ◌∙◌, subst, arith, le_refl, Option, Some, length-set, get_or-set_other}
use Rattle.std.proofs.Math.Nat.{mod-eq_of_lt}
use mathlib.Core.Logic.{dite}
use mathlib.Core.Option.{some, none}
use native.Mathlib.Decide.{ℕ_discrete}
use lib.ListN.{get_elem?, length-map}
use Rattle.atomic_table.specs.Table.{State, step, keeps, Allows}
use Rattle.gate.specs.declared.view.Origin.{Origin}
use Rattle.gate.specs.declared.view.View.{View}
use Rattle.gate.specs.declared.view.Holder.TheVariants.{Pass}
use Rattle.gate.specs.Records.{Begins, contents, Later}
use Rattle.gate.specs.SlotRule.{Lying, at as at_, width, most, Home, Out, IsSeat, IsGated}
use Rattle.gate.specs.Records.{grounds_by}
use Rattle.gate.specs.RuleSteps.{Sat, origin_of, holding, drew, IsAbove}
use Rattle.gate.proofs.Lists.{set_at, kept_set, seats_stay}
use Rattle.gate.proofs.Growth.{begins_refl}
use Rattle.gate.proofs.Runs.{contents_later}
use Rattle.gate.proofs.Seats.{slot_over, pass_over, seat_over, taken_set}
use Rattle.gate.proofs.Leaves.{inside_of, alone}
use Rattle.gate.proofs.Tickets.{above, draws_ticketed, run_small}
use Rattle.step_record.specs.declared.entry.Entry.{Entry}

module _ {Q C : Type 0} (o : Origin Q C) (G : (ℕ → List (Entry Q)) → ℕ → Q → Type 0) where
  abbrev V : Type 0
  V = View Q C

  abbrev Log : Type 0
  Log = List (Entry Q)

  abbrev St : Type 0
  St = State (Option (Lying Q C)) V

  abbrev Rule : St → Type 0
  Rule = IsGated o G

  -- what is grounded stays so as records grow
  abbrev pub Keeps : Type 0
  Keeps = (f g : ℕ → Log) (i : ℕ) (x : Q) → ((j : ℕ) → j < width o → Begins (f j) (g j)) → G f i x → G g i x

  drawn_rule : (kept : Keeps) (s : St) (r : Rule s) (id k : ℕ) (v : V) (q : Q) → k < width o → get_elem? s.views id ≡ some v → v.kind ≡ Pass → v.inside ≡ Some k → v.drawn ≡ [] → v.late ≡ [] → length v.held_tickets + 1 < most
      → G (at_ v.seen) k q → Rule record { words = set s.words (width o) (length r.ticketed.run + 1); homes = s.homes; views = set s.views id (holding v (length r.ticketed.run + 1) q) }
  drawn_rule kept s r id k v q l at is in_k no_ticket no_entry room grounds =
      let n : ℕ = length r.ticketed.run + 1 in let w : V = holding v n q in let ws : List ℕ = set s.words (width o) n in let vs : List V = set s.views id w in
      let old = r.each_seat id v at in let p = old.pass is in let wide = r.wide in let same : v.origin ≡ o = old.origin (λ z. cc (is, z)) in
      let here = (inside_of o G s r id k v l at is in_k).0 in
      let mine : IsSeat o r.given r.holder ws vs r.logs id w = record {
        origin = old.origin;
        width_seen = old.width_seen;
        seen = old.seen;
        told = old.told;
        inside = λ j lj e. let h = old.inside j lj e in (h.0, get_or-set_other s.words (width o) j n 0 (λ z. absurd (omega arith)) ∙ h.1);
        pass = λ e. record { sits = p.sits; known = p.known; widths = p.widths; own = p.own; taken_known = p.taken_known; taken = λ i t e'. taken_set o r.holder s.views r.logs id v w at is t (p.taken i t e') };
        maker = λ e. absurd (cc (is, e));
      } in
      record {
        given = r.given;
        few = r.few;
        holder = r.holder;
        logs = r.logs;
        wide = length-set s.words (width o) n ∙ r.wide;
        deep = r.deep;
        each_slot = λ j lj. dite (ℕ_discrete j k)
            (λ there. subst (λ (i : ℕ). Home o ws s.homes i (r.logs i) ⊎ Out o ws s.homes vs i (r.logs i)) (sym there)
            (inr (here.0, id, w, set_at s.views id w v at, is, in_k, (inside_of o G s r id k v l at is in_k).1, get_or-set_other s.words (width o) k n 0 (λ z. absurd (omega arith)) ∙ (old.inside k l in_k).1)))
            (λ other. slot_over o s.words ws s.homes s.homes s.views vs j (r.logs j) (r.logs j) (get_or-set_other s.words (width o) j n 0 (λ z. absurd (omega arith))) refl refl
            (λ i u at_u in_u. kept_set (λ (x : V). x.inside) s.views id i v u w at at_u (λ e. other (cc (in_u, in_k, e)))) (r.each_slot j lj));
        each_seat = seats_stay (IsSeat o r.given r.holder ws vs r.logs) s.views id w mine
            (λ j d other at_d. seat_over o r.given r.given r.holder r.holder s.words ws s.views vs r.logs r.logs j d (λ i li. begins_refl (r.logs i))
            (λ i li in_d f. get_or-set_other s.words (width o) i n 0 (λ z. absurd (omega arith)) ∙ f)
            (λ e q'. pass_over o r.given r.given r.holder r.holder s.views vs r.logs r.logs j d (le_refl r.given) refl (λ i li. refl) (taken_set o r.holder s.views r.logs id v w at is) q')
            (λ e. refl) (r.each_seat j d at_d));
        each_log = r.each_log;
        ticketed = draws_ticketed o G s.words s.homes s.views r.logs id k v q r.ticketed l at in_k no_ticket no_entry room same kept grounds (λ j lj. (r.each_log j lj).0) old.seen (omega (arith, wide)) r.deep here.0
            (alone o G s r id k v l at is in_k);
      }

  pub draws : (kept : Keeps) (slots id k : ℕ) (me : Sat Q C) (q : Q) → k < slots → me.0.kind ≡ Pass → me.0.inside ≡ Some k → me.0.drawn ≡ [] → me.0.late ≡ [] → length me.0.held_tickets + 1 < most → (me.0.origin ≡ o → G (at_ me.0.seen) k q)
      → Allows Rule slots id me slots (λ x. (x + 1) % 18446744073709551616) (drew (Some q) (step slots slots 1 0 none) me)
  draws kept slots id k me q in_slots is in_k no_ticket no_entry room grounds s r many at small =
      let deep = r.deep in let l : k < width o = omega (arith, many) in let t = r.ticketed in let v : V = me.0 in
      let same : v.origin ≡ o = (r.each_seat id v at).origin (λ z. cc (is, z)) in
      let n : ℕ = length t.run in
      let word : slots ≡ width o = omega (arith, many, deep) in
      let found : get_or s.words slots 0 ≡ n = ap (λ (i : ℕ). get_or s.words i 0) word ∙ t.counts in
      let fits = run_small o G s.words s.homes s.views r.logs t in
      let next : (get_or s.words slots 0 + 1) % 18446744073709551616 ≡ n + 1 = ap (λ (x : ℕ). (x + 1) % 18446744073709551616) found ∙ mod-eq_of_lt fits in
      let high = above o G s.words s.homes s.views r.logs id k v q t l at in_k no_ticket no_entry room same in (
        holding v (get_or s.words slots 0 + 1) q,
        keeps,
        tt,
        subst (λ (z : ℕ × ℕ × ℕ). Rule record { words = set s.words z.0 z.1; homes = s.homes; views = set s.views id (holding v z.2 q) })
            (λ i. (sym word i, sym next i, sym found i + 1)) (drawn_rule kept s r id k v q l at is in_k no_ticket no_entry room (grounds same)),
        (refl, (subst (λ (z : ℕ). z + 1 < 18446744073709551616) (sym found) fits), subst (λ (z : ℕ). IsAbove (z + 1) v) (sym found) high),
      )

-- the relation of an object, over the records of all slots
module _ {Q C : Type 0} (grounds : List C → ℕ → Q → Type 0) (after : C → Q → C) (kept : (before later : List C) (k : ℕ) (q : Q) → Later after before later → grounds before k q → grounds later k q) where
  keeps_of : (o : Origin Q C) → length o.starts ≡ width o → Keeps o (grounds_by grounds after o.starts)
  keeps_of o same f g i x h = kept (contents after o.starts f) (contents after o.starts g) i x (contents_later after o.starts f g (λ j l. h j (omega (arith, same))))

  -- a ticket drawn for a request that what the pass has seen grounds
  pub draws_for : {X : Type 0} (start : X → C) (log : X → List (Entry Q)) (xs : List X) (passes slots id k word : ℕ) (me : Sat Q C) (q : Q) (asked : Option Q) → asked ≡ Some q → k < slots → word ≡ slots → me.0.kind ≡ Pass → me.0.inside ≡ Some k
      → me.0.drawn ≡ [] → me.0.late ≡ [] → length me.0.held_tickets + 1 < most → grounds_by grounds after me.0.origin.starts (at_ me.0.seen) k q
      → Allows (IsGated (origin_of start log xs passes) (grounds_by grounds after (map start xs))) slots id me word (λ x. (x + 1) % 18446744073709551616) (drew asked (step slots word 1 0 none) me)
  draws_for start log xs passes slots id k word me q asked is l here kind in_k no_ticket no_entry room given =
      let o : Origin Q C = origin_of start log xs passes in
      subst (λ (z : Option Q × ℕ). Allows (IsGated o (grounds_by grounds after (map start xs))) slots id me z.1 (λ x. (x + 1) % 18446744073709551616) (drew z.0 (step slots z.1 1 0 none) me)) (λ i. (sym is i, sym here i))
      (draws o (grounds_by grounds after (map start xs)) (keeps_of o (length-map xs start ∙ sym (length-map xs log))) slots id k me q l kind in_k no_ticket no_entry room
      (λ same. subst (λ (z : Origin Q C). grounds_by grounds after z.starts (at_ me.0.seen) k q) same given))
