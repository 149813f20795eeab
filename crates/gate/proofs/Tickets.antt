-- The part of the rule that speaks of tickets, over each kind of step.
use Rattle.std.proofs.Common.{◌≡◌, ◌≢◌, ⊎_elim, ℕ, zero, suc, ◌+◌, ◌*◌, ◌<◌, ◌≤◌, List, [], ◌∷◌, ◌++◌, length, get_or, set, refl, sym, ap, ◌∙◌, subst, arith, append_assoc, append-nil, length-append, length-set, get_or-set_other, get_or-set_same, mul-le-mul_right, Option, Some, None}
use Rattle.std.specs.Prelude.{slice_get}
use mathlib.Core.Logic.{dite}
use mathlib.Core.Option.{some, none, some-injective, some-ne-none}
use mathlib.Core.Option as maybe
use native.Mathlib.Decide.{ℕ_discrete}
use lib.ListN.{get_elem?}
use Rattle.atomic_table.proofs.Lists.{set_here, set_else}
use Rattle.gate.specs.declared.view.Origin.{Origin}
use Rattle.gate.specs.declared.view.Taken.{Taken}
use Rattle.gate.specs.declared.view.View.{View}
use Rattle.gate.specs.declared.view.Holder.TheVariants.{Nobody}
use Rattle.gate.specs.Records.{Begins, past, on, tickets_from, grown}
use Rattle.gate.specs.SlotRule.{Lying, at as at_, width, base, most, Drawn, IsStamped, IsMarked, IsDrawn, IsTicketed}
use Rattle.gate.specs.RuleSteps.{within, holding, recorded, withdrawn, nobody, IsAbove}
use Rattle.gate.proofs.Lists.{seats_stay, snoc_at, put, put_here, put_else}
use Rattle.gate.proofs.Growth.{begins_nil, begins_refl, begins_trans, past_append, past_longer}
use Rattle.gate.proofs.Runs.{on_here, on_else, tickets_here, tickets_else, length-tickets, ticket_below, in_slots_more, run_short, grounded_more, grounded_none}
use Rattle.step_record.specs.declared.entry.Entry.{Entry}

module _ {Q C : Type 0} (o : Origin Q C) (G : (ℕ → List (Entry Q)) → ℕ → Q → Type 0) where
  abbrev V : Type 0
  V = View Q C

  abbrev Log : Type 0
  Log = List (Entry Q)

  abbrev Homes : Type 0
  Homes = List (maybe.Option (Option (Lying Q C)))

  abbrev T : List ℕ → Homes → List V → (ℕ → Log) → Type 0
  T = IsTicketed o G

  abbrev AtHome : (ℕ → Drawn Q) → Homes → Type 0
  AtHome ds hs = (k : ℕ) → k < width o → (y : Lying Q C) → get_elem? hs k ≡ some (some (Some y)) → (y.2 ≡ (ds k).tickets) × ((ds k).ticket ≡ []) × ((ds k).entry ≡ [])

  abbrev AllOut : (ℕ → Drawn Q) → List V → Type 0
  AllOut ds vs = (id : ℕ) (v : V) → get_elem? vs id ≡ some v → (k : ℕ) → k < width o → v.inside ≡ Some k → IsDrawn o v (ds k)

  abbrev AllMarked : (ℕ → Drawn Q) → List V → Type 0
  AllMarked ds vs = (id : ℕ) (v : V) → get_elem? vs id ≡ some v → IsMarked o ds v

  -- no step was made and no ticket drawn
  pub moved : (ws ws' : List ℕ) (hs hs' : Homes) (vs vs' : List V) (ls : ℕ → Log) (t : T ws hs vs ls) → get_or ws' (width o) 0 ≡ get_or ws (width o) 0
      → AtHome t.ds hs' → AllOut t.ds vs' → AllMarked t.ds vs' → T ws' hs' vs' ls
  moved ws ws' hs hs' vs vs' ls t word homes outs marks = record {
    run = t.run;
    ds = t.ds;
    narrow = t.narrow;
    counts = word ∙ t.counts;
    each_home = homes;
    each_out = outs;
    each_mark = marks;
    each_stamp = t.each_stamp;
    each_step = t.each_step;
    grounded = t.grounded;
  }

  -- a seat in no slot has a new view
  pub reseated : (ws : List ℕ) (hs : Homes) (vs : List V) (ls : ℕ → Log) (id : ℕ) (w : V) (t : T ws hs vs ls) → ((k : ℕ) → k < width o → w.inside ≡ Some k → ⊥) → IsMarked o t.ds w → T ws hs (set vs id w) ls
  reseated ws hs vs ls id w t outside mine = moved ws ws hs hs vs (set vs id w) ls t refl t.each_home
      (seats_stay (λ j d. (k : ℕ) → k < width o → d.inside ≡ Some k → IsDrawn o d (t.ds k)) vs id w (λ k l e. absurd (outside k l e)) (λ j d other at_d. t.each_out j d at_d))
      (seats_stay (λ j d. IsMarked o t.ds d) vs id w mine (λ j d other at_d. t.each_mark j d at_d))

  -- a new seat in no slot
  pub seated : (ws : List ℕ) (hs : Homes) (vs : List V) (ls : ℕ → Log) (w : V) (t : T ws hs vs ls) → ((k : ℕ) → k < width o → w.inside ≡ Some k → ⊥) → IsMarked o t.ds w → T ws hs (vs ++ w ∷ []) ls
  seated ws hs vs ls w t outside mine = moved ws ws hs hs vs (vs ++ w ∷ []) ls t refl t.each_home
      (λ j d e. ⊎_elim (λ (b : get_elem? vs j ≡ some d). t.each_out j d b)
      (λ (b : (j ≡ length vs) × (w ≡ d)). λ k l in_k. absurd (outside k l (ap (λ (x : V). x.inside) b.1 ∙ in_k))) (snoc_at vs w d j e))
      (λ j d e. ⊎_elim (λ (b : get_elem? vs j ≡ some d). t.each_mark j d b)
      (λ (b : (j ≡ length vs) × (w ≡ d)). subst (IsMarked o t.ds) b.1 mine) (snoc_at vs w d j e))

  -- what nobody knows any more
  pub nobody_marked : (ds : ℕ → Drawn Q) → IsMarked o ds nobody
  nobody_marked ds = record {
    widths = λ h. absurd (h refl);
    seen = λ k l. begins_nil (ds k).tickets;
    told = λ k l. begins_nil (ds k).tickets;
    taken = λ i t e. absurd (some-ne-none t (sym e));
  }

  -- nothing lies in a slot that was emptied
  not_there : (hs : Homes) (k : ℕ) (z : Lying Q C) → k < length hs → get_elem? (set hs k none) k ≡ some (some (Some z)) → ⊥
  not_there hs k z inside e = let h : some none ≡ some (some (Some z)) = sym (set_here hs k none inside) ∙ e in some-ne-none (Some z) (sym (some-injective none (some (Some z)) h))

  -- of a slot that no pass is inside, there are as many tickets as entries since the opening
  pub home_pairs : (ws : List ℕ) (hs : Homes) (vs : List V) (ls : ℕ → Log) (t : T ws hs vs ls) (k : ℕ) → k < width o → (t.ds k).ticket ≡ [] → (t.ds k).entry ≡ [] → length (t.ds k).tickets ≡ length (past (base o k) (ls k))
  home_pairs ws hs vs ls t k l bare nothing = let s = t.each_stamp k l in
      ap length (sym (append-nil (t.ds k).tickets) ∙ (ap (λ (z : List ℕ). (t.ds k).tickets ++ z) (sym bare) ∙ s.tickets)) ∙ (length-tickets 1 k t.run
      ∙ ap length (sym s.entries ∙ (ap (λ (z : Log). past (base o k) (ls k) ++ z) nothing ∙ append-nil (past (base o k) (ls k)))))

  -- an enter that won
  pub won_ticketed : (ws : List ℕ) (hs : Homes) (vs : List V) (ls : ℕ → Log) (id k word : ℕ) (v : V) (y : Lying Q C) (t : T ws hs vs ls) → k < width o → k < length hs → get_elem? vs id ≡ some v
      → get_elem? hs k ≡ some (some (Some y)) → T (set ws k word) (set hs k none) (set vs id (within v k y.1 y.2)) ls
  won_ticketed ws hs vs ls id k word v y t l inside at here =
      let w : V = within v k y.1 y.2 in let m = t.each_mark id v at in let found = t.each_home k l y here in
      moved ws (set ws k word) hs (set hs k none) vs (set vs id w) ls t (get_or-set_other ws k (width o) word 0 (λ e. absurd (omega arith)))
      (λ j lj z e. dite (ℕ_discrete j k)
      (λ same. absurd (not_there hs k z inside (ap (get_elem? (set hs k none)) (sym same) ∙ e)))
      (λ other. t.each_home j lj z (sym (set_else hs k j none other) ∙ e)))
      (seats_stay (λ j d. (i : ℕ) → i < width o → d.inside ≡ Some i → IsDrawn o d (t.ds i)) vs id w
      (λ i li e. let same : k ≡ i = cc e in subst (λ (n : ℕ). IsDrawn o w (t.ds n)) same (found.0, sym found.1, sym found.2))
      (λ j d other at_d. t.each_out j d at_d))
      (seats_stay (λ j d. IsMarked o t.ds d) vs id w record { widths = m.widths; seen = m.seen; told = m.told; taken = m.taken } (λ j d other at_d. t.each_mark j d at_d))

  -- what is in a record and what was drawn for it make its part of the run
  seen_before : (ws : List ℕ) (hs : Homes) (vs : List V) (ls : ℕ → Log) (t : T ws hs vs ls) (j : ℕ) → j < width o → Begins (base o j) (ls j) → Begins (ls j) (grown (base o) t.run j)
  seen_before ws hs vs ls t j l b = let s = t.each_stamp j l in (
    (t.ds j).entry,
    ap (λ (z : Log). base o j ++ z) (sym s.entries) ∙ (sym (append_assoc (base o j) (past (base o j) (ls j)) (t.ds j).entry)
        ∙ ap (λ (z : Log). z ++ (t.ds j).entry) (ap (λ (z : Log). base o j ++ past (base o j) z) b.1 ∙ (ap (λ (z : Log). base o j ++ z) (past_append (base o j) b.0) ∙ sym b.1))),
  )

  -- so few steps were made that the next ticket is no greater than a word may be
  pub run_small : (ws : List ℕ) (hs : Homes) (vs : List V) (ls : ℕ → Log) (t : T ws hs vs ls) → length t.run + 1 < 18446744073709551616
  run_small ws hs vs ls t =
      let few : (k : ℕ) → k < width o → length (on k t.run) ≤ most = λ k l. let s = t.each_stamp k l in let b = s.few in
      let e : length ((t.ds k).tickets ++ (t.ds k).ticket) ≡ length (on k t.run) = ap length s.tickets ∙ length-tickets 1 k t.run in omega (arith, e, b) in
      let short : length t.run ≤ width o * most = run_short (width o) most t.run t.each_step few in
      let narrow : width o * most ≤ 64 * most = mul-le-mul_right most t.narrow in
      let p : ℕ = width o * most in omega (arith, short, narrow)

  -- a ticket drawn, by a pass that is alone in its slot
  module _ (ws : List ℕ) (hs : Homes) (vs : List V) (ls : ℕ → Log) (id k : ℕ) (v : V) (q : Q) (t : T ws hs vs ls) (l : k < width o) (at : get_elem? vs id ≡ some v) (in_k : v.inside ≡ Some k)
      (no_ticket : v.drawn ≡ []) (no_entry : v.late ≡ []) (room : length v.held_tickets + 1 < most) (same : v.origin ≡ o) where
    abbrev n : ℕ
    n = length t.run

    abbrev e : Entry Q
    e = record { pass = v.number; request = q }

    abbrev w : V
    w = holding v (n + 1) q

    abbrev d : Drawn Q
    d = record { tickets = (t.ds k).tickets; ticket = (n + 1) ∷ []; entry = e ∷ [] }

    abbrev ds : ℕ → Drawn Q
    ds = put t.ds k d

    same_tickets : (j : ℕ) → (ds j).tickets ≡ (t.ds j).tickets
    same_tickets j = dite (ℕ_discrete j k)
        (λ here. ap (λ (i : ℕ). (ds i).tickets) here ∙ (ap (λ (z : Drawn Q). z.tickets) (put_here t.ds k d) ∙ ap (λ (i : ℕ). (t.ds i).tickets) (sym here)))
        (λ other. ap (λ (z : Drawn Q). z.tickets) (put_else t.ds k d j other))

    still_marked : (u : V) → IsMarked o t.ds u → IsMarked o ds u
    still_marked u m = record {
      widths = m.widths;
      seen = λ j lj. subst (Begins (at_ u.tickets j)) (sym (same_tickets j)) (m.seen j lj);
      told = λ j lj. subst (Begins (at_ u.told_tickets j)) (sym (same_tickets j)) (m.told j lj);
      taken = λ i x there j lj. subst (Begins (at_ x.tickets j)) (sym (same_tickets j)) (m.taken i x there j lj);
    }

    mine_out : IsDrawn o v (t.ds k)
    mine_out = t.each_out id v at k l in_k

    -- the ticket is above all that the pass has seen
    pub above : IsAbove (n + 1) v
    above j i x lj here =
        let m = t.each_mark id v at in let lo : j < width o = subst (λ (z : Origin Q C). j < length z.bases) same lj in
        let b = m.seen j lo in let s = t.each_stamp j lo in
        let all : tickets_from 1 j t.run ≡ at_ v.tickets j ++ (b.0 ++ (t.ds j).ticket) = sym s.tickets ∙ (ap (λ (z : List ℕ). z ++ (t.ds j).ticket) b.1 ∙ append_assoc (at_ v.tickets j) b.0 (t.ds j).ticket) in
        let small = ticket_below 1 j t.run i x (ap (λ (z : List ℕ). slice_get z i) all ∙ get_front (at_ v.tickets j) (b.0 ++ (t.ds j).ticket) i x here) in
        omega (arith, small)
      where
        get_front : (xs ys : List ℕ) (i x : ℕ) → slice_get xs i ≡ Some x → slice_get (xs ++ ys) i ≡ Some x
        get_front [] ys i x e = absurd (cc e)
        get_front (z ∷ xs) ys zero x e = e
        get_front (z ∷ xs) ys (suc i) x e = get_front xs ys i x e

    -- the run has one step more, which what the pass has seen grounds
    pub draws_ticketed : (kept : (f g : ℕ → Log) (i : ℕ) (x : Q) → ((j : ℕ) → j < width o → Begins (f j) (g j)) → G f i x → G g i x) → G (at_ v.seen) k q
        → ((j : ℕ) → j < width o → Begins (base o j) (ls j)) → ((j : ℕ) → j < width o → Begins (at_ v.seen j) (ls j))
        → width o < length ws → length hs ≡ width o → get_elem? hs k ≡ some none → ((j : ℕ) (u : V) → j ≢ id → get_elem? vs j ≡ some u → u.inside ≡ Some k → ⊥)
        → T (set ws (width o) (n + 1)) hs (set vs id w) ls
    draws_ticketed kept grounds based seen wide deep gone alone = record {
      run = t.run ++ (k, e) ∷ [];
      ds = ds;
      narrow = t.narrow;
      counts = get_or-set_same ws (width o) (n + 1) 0 wide ∙ sym (length-append t.run ((k, e) ∷ []));
      each_home = λ j lj y there. dite (ℕ_discrete j k)
          (λ here. absurd (some-ne-none (Some y) (sym (some-injective none (some (Some y)) (sym gone ∙ (ap (get_elem? hs) (sym here) ∙ there))))))
          (λ other. subst (λ (z : Drawn Q). (y.2 ≡ z.tickets) × (z.ticket ≡ []) × (z.entry ≡ [])) (sym (put_else t.ds k d j other)) (t.each_home j lj y there));
      each_out = seats_stay (λ j u. (i : ℕ) → i < width o → u.inside ≡ Some i → IsDrawn o u (ds i)) vs id w
          (λ i li in_i. let here : k ≡ i = cc (in_k, in_i) in subst (λ (z : ℕ). IsDrawn o w (ds z)) here (subst (IsDrawn o w) (sym (put_here t.ds k d)) (mine_out.0, refl, refl)))
          (λ j u other at_u i li in_i. subst (IsDrawn o u) (sym (put_else t.ds k d i (λ here. alone j u other at_u (in_i ∙ ap Some here)))) (t.each_out j u at_u i li in_i));
      each_mark = seats_stay (λ j u. IsMarked o ds u) vs id w
          (let m = still_marked v (t.each_mark id v at) in record { widths = m.widths; seen = m.seen; told = m.told; taken = m.taken })
          (λ j u other at_u. still_marked u (t.each_mark j u at_u));
      each_stamp = λ j lj. dite (ℕ_discrete j k)
          (λ here. subst (λ (i : ℕ). IsStamped o (t.run ++ (k, e) ∷ []) i (ls i) (ds i)) (sym here) (subst (IsStamped o (t.run ++ (k, e) ∷ []) k (ls k)) (sym (put_here t.ds k d)) stamped))
          (λ other. let s = t.each_stamp j lj in subst (IsStamped o (t.run ++ (k, e) ∷ []) j (ls j)) (sym (put_else t.ds k d j other)) record {
            entries = s.entries ∙ sym (on_else j k e t.run other);
            tickets = s.tickets ∙ sym (tickets_else 1 j k e t.run other);
            few = s.few;
          });
      each_step = in_slots_more (width o) k e t.run l t.each_step;
      grounded = grounded_more G (base o) t.run k e t.grounded
          (kept (at_ v.seen) (grown (base o) t.run) k q (λ j lj. begins_trans (at_ v.seen j) (ls j) (grown (base o) t.run j) (seen j lj) (seen_before ws hs vs ls t j lj (based j lj))) grounds);
    }
      where
        none_yet : (t.ds k).entry ≡ []
        none_yet = sym mine_out.2 ∙ no_entry

        nothing_drawn : (t.ds k).ticket ≡ []
        nothing_drawn = sym mine_out.1 ∙ no_ticket

        stamped : IsStamped o (t.run ++ (k, e) ∷ []) k (ls k) d
        stamped = let s = t.each_stamp k l in record {
          entries = ap (λ (z : Log). z ++ e ∷ []) (sym (append-nil (past (base o k) (ls k))) ∙ (ap (λ (z : Log). past (base o k) (ls k) ++ z) (sym none_yet) ∙ s.entries)) ∙ sym (on_here k e t.run);
          tickets = ap (λ (z : List ℕ). z ++ (n + 1) ∷ []) (sym (append-nil (t.ds k).tickets) ∙ (ap (λ (z : List ℕ). (t.ds k).tickets ++ z) (sym nothing_drawn) ∙ s.tickets))
              ∙ (ap (λ (z : ℕ). tickets_from 1 k t.run ++ z ∷ []) (let p : n + 1 ≡ 1 + n = omega arith in p) ∙ sym (tickets_here 1 k e t.run));
          few = let a = ap length mine_out.0 in let b = length-append (t.ds k).tickets ((n + 1) ∷ []) in omega (arith, a, b, room);
        }

  -- a leave with the ticket and the entry that were drawn
  module _ (ws : List ℕ) (hs : Homes) (vs : List V) (ls : ℕ → Log) (id k : ℕ) (v : V) (y : Lying Q C) (t : T ws hs vs ls) (l : k < width o) (at : get_elem? vs id ≡ some v) (in_k : v.inside ≡ Some k)
      (log : y.1 ≡ ls k ++ v.late) (tickets : y.2 ≡ v.held_tickets ++ v.drawn) (based : Begins (base o k) (ls k)) where
    abbrev home : Drawn Q
    home = record { tickets = y.2; ticket = []; entry = [] }

    abbrev ds' : ℕ → Drawn Q
    ds' = put t.ds k home

    abbrev out : V
    out = recorded v k y.1 y.2

    out_is : IsDrawn o v (t.ds k)
    out_is = t.each_out id v at k l in_k

    now : y.2 ≡ (t.ds k).tickets ++ (t.ds k).ticket
    now = tickets ∙ (λ i. out_is.0 i ++ out_is.1 i)

    grown_tickets : (j : ℕ) → Begins (t.ds j).tickets (ds' j).tickets
    grown_tickets j = dite (ℕ_discrete j k)
        (λ here. subst (λ (i : ℕ). Begins (t.ds i).tickets (ds' i).tickets) (sym here) (subst (λ (z : Drawn Q). Begins (t.ds k).tickets z.tickets) (sym (put_here t.ds k home)) ((t.ds k).ticket, now)))
        (λ other. subst (λ (z : Drawn Q). Begins (t.ds j).tickets z.tickets) (sym (put_else t.ds k home j other)) (begins_refl (t.ds j).tickets))

    more_marked : (u : V) → IsMarked o t.ds u → IsMarked o ds' u
    more_marked u m = record {
      widths = m.widths;
      seen = λ j lj. begins_trans (at_ u.tickets j) (t.ds j).tickets (ds' j).tickets (m.seen j lj) (grown_tickets j);
      told = λ j lj. begins_trans (at_ u.told_tickets j) (t.ds j).tickets (ds' j).tickets (m.told j lj) (grown_tickets j);
      taken = λ i x there j lj. begins_trans (at_ x.tickets j) (t.ds j).tickets (ds' j).tickets (m.taken i x there j lj) (grown_tickets j);
    }

    mine_marked : v.kind ≢ Nobody → IsMarked o ds' out
    mine_marked some_kind = let m = more_marked v (t.each_mark id v at) in let wide = m.widths some_kind in record {
      widths = λ h. length-set v.tickets k y.2 ∙ m.widths h;
      seen = λ j lj. dite (ℕ_discrete j k)
          (λ here. subst (λ (i : ℕ). Begins (at_ out.tickets i) (ds' i).tickets) (sym here)
          (subst (λ (z : List ℕ). Begins z (ds' k).tickets) (sym (get_or-set_same v.tickets k y.2 [] (omega arith))) (subst (λ (z : Drawn Q). Begins y.2 z.tickets) (sym (put_here t.ds k home)) (begins_refl y.2))))
          (λ other. subst (λ (z : List ℕ). Begins z (ds' j).tickets) (sym (get_or-set_other v.tickets k j y.2 [] other)) (m.seen j lj));
      told = m.told;
      taken = m.taken;
    }

    pub left_ticketed : v.kind ≢ Nobody → k < length hs → ((j : ℕ) (u : V) → j ≢ id → get_elem? vs j ≡ some u → u.inside ≡ Some k → ⊥)
        → T (set ws k 0) (set hs k (some (Some y))) (set vs id out) (put ls k y.1)
    left_ticketed some_kind deep alone = record {
      run = t.run;
      ds = ds';
      narrow = t.narrow;
      counts = get_or-set_other ws k (width o) 0 0 (λ e. absurd (omega arith)) ∙ t.counts;
      each_home = λ j lj z there. dite (ℕ_discrete j k)
          (λ here. let is : Some y ≡ Some z = some-injective (Some y) (Some z) (some-injective (some (Some y)) (some (Some z)) (sym (set_here hs k (some (Some y)) deep) ∙ (ap (get_elem? (set hs k (some (Some y)))) (sym here) ∙ there))) in
          subst (λ (i : ℕ). (z.2 ≡ (ds' i).tickets) × ((ds' i).ticket ≡ []) × ((ds' i).entry ≡ [])) (sym here)
          (subst (λ (x : Drawn Q). (z.2 ≡ x.tickets) × (x.ticket ≡ []) × (x.entry ≡ [])) (sym (put_here t.ds k home)) ((let same : y ≡ z = cc is in ap (λ (x : Lying Q C). x.2) (sym same)), refl, refl)))
          (λ other. subst (λ (x : Drawn Q). (z.2 ≡ x.tickets) × (x.ticket ≡ []) × (x.entry ≡ [])) (sym (put_else t.ds k home j other)) (t.each_home j lj z (sym (set_else hs k j (some (Some y)) other) ∙ there)));
      each_out = seats_stay (λ j u. (i : ℕ) → i < width o → u.inside ≡ Some i → IsDrawn o u (ds' i)) vs id out
          (λ i li in_i. absurd (cc in_i))
          (λ j u other at_u i li in_i. subst (IsDrawn o u) (sym (put_else t.ds k home i (λ here. alone j u other at_u (in_i ∙ ap Some here)))) (t.each_out j u at_u i li in_i));
      each_mark = seats_stay (λ j u. IsMarked o ds' u) vs id out (mine_marked some_kind) (λ j u other at_u. more_marked u (t.each_mark j u at_u));
      each_stamp = λ j lj. dite (ℕ_discrete j k)
          (λ here. subst (λ (i : ℕ). IsStamped o t.run i (put ls k y.1 i) (ds' i)) (sym here)
          (subst (λ (z : Log × Drawn Q). IsStamped o t.run k z.0 z.1) (λ i. (sym (put_here ls k y.1) i, sym (put_here t.ds k home) i)) stamped))
          (λ other. subst (λ (z : Log × Drawn Q). IsStamped o t.run j z.0 z.1) (λ i. (sym (put_else ls k y.1 j other) i, sym (put_else t.ds k home j other) i)) (t.each_stamp j lj));
      each_step = t.each_step;
      grounded = t.grounded;
    }
      where
        stamped : IsStamped o t.run k y.1 home
        stamped = let s = t.each_stamp k l in record {
          entries = append-nil (past (base o k) y.1) ∙ (ap (past (base o k)) log ∙ (past_longer (base o k) (ls k) v.late based ∙ (ap (λ (z : Log). past (base o k) (ls k) ++ z) out_is.2 ∙ s.entries)));
          tickets = append-nil y.2 ∙ (now ∙ s.tickets);
          few = let a = ap length (append-nil y.2 ∙ now) in let b = s.few in omega (arith, a, b);
        }

  -- a leave of a slot as it was found
  pub backed_ticketed : (ws : List ℕ) (hs : Homes) (vs : List V) (ls : ℕ → Log) (id k : ℕ) (v : V) (y : Lying Q C) (t : T ws hs vs ls) → k < width o → k < length hs → get_elem? vs id ≡ some v → v.inside ≡ Some k
      → v.drawn ≡ [] → v.late ≡ [] → y.2 ≡ v.held_tickets → T (set ws k 0) (set hs k (some (Some y))) (set vs id (withdrawn v)) ls
  backed_ticketed ws hs vs ls id k v y t l inside at in_k no_ticket no_entry tickets =
      let w : V = withdrawn v in let m = t.each_mark id v at in let mine = t.each_out id v at k l in_k in
      moved ws (set ws k 0) hs (set hs k (some (Some y))) vs (set vs id w) ls t (get_or-set_other ws k (width o) 0 0 (λ e. absurd (omega arith)))
      (λ j lj z there. dite (ℕ_discrete j k)
      (λ here. let is : Some y ≡ Some z = some-injective (Some y) (Some z) (some-injective (some (Some y)) (some (Some z)) (sym (set_here hs k (some (Some y)) inside) ∙ (ap (get_elem? (set hs k (some (Some y)))) (sym here) ∙ there))) in
      subst (λ (i : ℕ). (z.2 ≡ (t.ds i).tickets) × ((t.ds i).ticket ≡ []) × ((t.ds i).entry ≡ [])) (sym here)
      ((let same : y ≡ z = cc is in ap (λ (x : Lying Q C). x.2) (sym same) ∙ (tickets ∙ mine.0)), sym mine.1 ∙ no_ticket, sym mine.2 ∙ no_entry))
      (λ other. t.each_home j lj z (sym (set_else hs k j (some (Some y)) other) ∙ there)))
      (seats_stay (λ j d. (i : ℕ) → i < width o → d.inside ≡ Some i → IsDrawn o d (t.ds i)) vs id w (λ i li e. absurd (cc e)) (λ j d other at_d. t.each_out j d at_d))
      (seats_stay (λ j d. IsMarked o t.ds d) vs id w record { widths = m.widths; seen = m.seen; told = m.told; taken = m.taken } (λ j d other at_d. t.each_mark j d at_d))

  -- the opening
  pub opens_ticketed : (ws : List ℕ) (hs : Homes) (m : V) → width o ≤ 64 → get_or ws (width o) 0 ≡ 0 → ((k : ℕ) (y : Lying Q C) → k < width o → get_elem? hs k ≡ some (some (Some y)) → y.2 ≡ []) → m.inside ≡ None
      → length m.tickets ≡ width o → ((k : ℕ) → at_ m.tickets k ≡ []) → ((k : ℕ) → at_ m.told_tickets k ≡ []) → m.taken ≡ [] → ((k : ℕ) → past (base o k) (base o k) ≡ []) → T ws hs (m ∷ []) (base o)
  opens_ticketed ws hs m narrow counter bare idle wide seen told taken past_same = record {
    run = [];
    ds = λ k. record { tickets = []; ticket = []; entry = [] };
    narrow = narrow;
    counts = counter;
    each_home = λ k l y here. (bare k y l here, refl, refl);
    each_out = λ id v e k l in_k. absurd (let same = only id v e in cc (ap (λ (x : V). x.inside) same, in_k, idle));
    each_mark = λ id v e. subst (IsMarked o (λ k. record { tickets = []; ticket = []; entry = [] })) (only id v e) record {
      widths = λ h. wide;
      seen = λ k l. ([], seen_nil (seen k));
      told = λ k l. ([], seen_nil (told k));
      taken = λ i x h. absurd (some-ne-none x (sym (sym (ap (λ (z : List (Taken Q)). get_elem? z i) taken) ∙ h)));
    };
    each_stamp = λ k l. record { entries = append-nil (past (base o k) (base o k)) ∙ past_same k; tickets = refl; few = omega arith };
    each_step = tt;
    grounded = grounded_none G (base o);
  }
    where
      only : (id : ℕ) (v : V) → get_elem? (m ∷ []) id ≡ some v → m ≡ v
      only zero v e = some-injective m v e
      only (suc id) v e = absurd (some-ne-none v (sym e))

      seen_nil : {xs : List ℕ} → xs ≡ [] → [] ≡ xs ++ []
      seen_nil {xs} e = sym (ap (λ (z : List ℕ). z ++ []) e)
