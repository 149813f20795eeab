-- Each step of a pass keeps the rule.
use Rattle.std.proofs.Common.{◌≡◌, ◌≢◌, ⊎_elim, ℕ, zero, suc, ◌+◌, ◌<◌, List, [], ◌∷◌, ◌++◌, length, set, refl, sym, ap, ◌∙◌, subst, arith, append_assoc, append-nil}
use mathlib.Core.Option.{some, some-injective, some-ne-none}
use lib.ListN.{get_elem?}
use Rattle.atomic_table.proofs.Lists.{at_longer, set_else}
use Rattle.crossbeam_queue.specs.Fifo.{Pushes, Pops, Forks}
use Rattle.service_model_types.specs.declared.request.Hint.{Hint}
use Rattle.matching.specs.declared.view.Part.{Part}
use Rattle.matching.specs.declared.view.View.{View}
use Rattle.matching.specs.declared.view.Holder.TheVariants.{Pass, Maker}
use Rattle.matching.specs.Entries.{Entry, Begins, by, FromGiven, FromShards, by_first, hints}
use Rattle.matching.specs.AtClose.{part_of, HasDone}
use Rattle.matching.specs.Moments.{IsMoment}
use Rattle.matching.specs.PassSteps.{maker, made_one, newcomer, with_put, with_taken, with_seen, Puts, Takes, Sees}
use Rattle.matching.specs.Rings.{Tells}
use Rattle.matching.specs.Rule.{IsHanded, IsPass, IsSeat, Kept, IsLast}
use Rattle.matching.specs.ToldHints.{compared, Compares}
use Rattle.matching.proofs.Entries.{begins_nil, begins_refl, begins_longer, begins_either, longer_begins, by-append, by_own, by_other, by_none, by-first, given_first, given_more, given-append, shards-append, hints-append, hints-first}
use Rattle.matching.proofs.Stays.{snoc_at, seats_stay, same_at, sat, sat_here, sat_else, handed_over, pass_over, seat_over, handed_step, each_step}

module _ (waiting : List Hint) (all width : ℕ) where
  abbrev Rule : List Hint → List View → Type 0
  Rule = Kept waiting all width

  pub begins : (capacity : ℕ) → FromShards width waiting → Rule waiting (maker all width capacity waiting ∷ [])
  begins capacity inside = record {
    put = by_first waiting;
    taken = [];
    more = [];
    made = 0;
    few = omega arith;
    holder = λ n. 0;
    opened = sym (append-nil (by_first waiting));
    split = hints-first waiting;
    shards = inside;
    known_more = tt;
    known_taken = tt;
    each = first;
  }
    where
      one : List View
      one = maker all width capacity waiting ∷ []

      first : (id : ℕ) (v : View) → get_elem? one id ≡ some v → IsSeat waiting all width 0 (λ n. 0) one (by_first waiting) [] id v
      first zero v e = subst (IsSeat waiting all width 0 (λ n. 0) one (by_first waiting) [] 0) (some-injective (maker all width capacity waiting) v e) record {
        seen_put = begins_refl (by_first waiting);
        seen_taken = begins_nil [];
        told_put = begins_nil (by_first waiting);
        told_taken = begins_nil [];
        pass = λ h. absurd (cc h);
        maker = λ h. record { first = refl; counts = refl; told = (refl, refl, refl); put = refl };
      }
      first (suc id) v e = absurd (some-ne-none v (sym e))

  -- all that was put is of passes that were given, once there is one
  pub all_given : (items : List Hint) (views : List View) (b : Rule items views) (id : ℕ) (v : View) → IsPass waiting all width b.made b.holder views b.put b.taken id v → FromGiven v.given b.put
  all_given items views b id v p =
      let few = b.few in let known = p.known in let told = p.told.0 in
      subst (FromGiven v.given) (sym b.opened)
      (given-append v.given (by_first waiting) b.more (given_first v.given waiting (omega arith)) (given_more b.made v.given b.more (omega arith) b.known_more))

  -- what a pass knows of the moment
  pub moment_of : (items : List Hint) (views : List View) (b : Rule items views) (id : ℕ) (v : View) → IsPass waiting all width b.made b.holder views b.put b.taken id v → IsMoment v b.put b.taken items
  moment_of items views b id v p =
      let few = b.few in let told = p.told.0 in
      record {
        split = b.split;
        seen_put = p.done.seen_put;
        seen_taken = p.done.seen_taken;
        own_put = p.done.own_put;
        own_taken = p.done.own_taken;
        given_put = all_given items views b id v p;
        given_taken = given_more b.made v.given b.taken (omega arith) b.known_taken;
        shards = subst (λ (n : ℕ). FromShards n items) (sym p.told.1) b.shards;
      }

  nothing : (m n : ℕ) → n ≢ m → by n [] ≡ []
  nothing m n ne = refl

  pub puts : (n id : ℕ) (v : View) (x : Hint) → v.kind ≡ Pass → n ≡ v.capacity → x.shard < v.shards → Pushes Rule n id v x (Puts v x)
  puts n id v x is cap inside items views room b at =
      let old = b.each id v at in let p = old.pass is in
      let more : List Entry = (v.number, x) ∷ [] in
      let w : View = with_put v b.put b.taken x in
      let put' : List Entry = b.put ++ more in
      let same : b.taken ≡ b.taken ++ [] = sym (append-nil b.taken) in
      let other : (m : ℕ) → m ≢ v.number → by m more ≡ [] = λ m ne. by_other m v.number x ne in
      let mine : IsSeat waiting all width b.made b.holder (set views id w) put' b.taken id w = record {
        seen_put = begins_refl put';
        seen_taken = begins_refl b.taken;
        told_put = begins_longer v.told_put b.put more old.told_put;
        told_taken = old.told_taken;
        pass = λ h. record {
          sits = p.sits;
          known = p.known;
          told = p.told;
          done = record {
            seen_put = begins_refl put';
            seen_taken = begins_refl b.taken;
            own_put = by-append v.number b.put more ∙ (ap (λ (l : List Entry). l ++ by v.number more) p.done.own_put ∙ ap (λ (l : List Entry). v.pushed ++ l) (by_own v.number x));
            own_taken = p.done.own_taken;
          };
          handed = λ i t e. handed_step waiting all width items views b id v w at is more [] put' b.taken refl same other (nothing v.number) t (p.handed i t e);
        };
        maker = λ h. absurd (cc (is, h));
      } in
      let kept : Rule (items ++ x ∷ []) (set views id w) = record {
        put = put';
        taken = b.taken;
        more = b.more ++ more;
        made = b.made;
        few = b.few;
        holder = b.holder;
        opened = ap (λ (l : List Entry). l ++ more) b.opened ∙ append_assoc (by_first waiting) b.more more;
        split = hints-append b.put more ∙ (ap (λ (l : List Hint). l ++ x ∷ []) b.split ∙ append_assoc (hints b.taken) items (x ∷ []));
        shards = shards-append width items (x ∷ []) b.shards (subst (λ (m : ℕ). x.shard < m) p.told.1 inside, tt);
        known_more = given-append b.made b.more more b.known_more (p.known, tt);
        known_taken = b.known_taken;
        each = each_step waiting all width items views b id v w at is more [] put' b.taken refl same other (nothing v.number) mine;
      } in
      let told : Puts v x w = record { put = b.put; taken = b.taken; waiting = items; moment = moment_of items views b id v p; room = subst (λ (m : ℕ). length items < m) cap room; knows = refl } in
      (w, kept, told)

  pub takes : (id : ℕ) (v : View) → v.kind ≡ Pass → Pops Rule id v (Takes v)
  takes id v is x items views b at =
      let old = b.each id v at in let p = old.pass is in
      let less : List Entry = (v.number, x) ∷ [] in
      let w : View = with_taken v b.put b.taken x in
      let taken' : List Entry = b.taken ++ less in
      let same : b.put ≡ b.put ++ [] = sym (append-nil b.put) in
      let other : (m : ℕ) → m ≢ v.number → by m less ≡ [] = λ m ne. by_other m v.number x ne in
      let mine : IsSeat waiting all width b.made b.holder (set views id w) b.put taken' id w = record {
        seen_put = begins_refl b.put;
        seen_taken = begins_refl taken';
        told_put = old.told_put;
        told_taken = begins_longer v.told_taken b.taken less old.told_taken;
        pass = λ h. record {
          sits = p.sits;
          known = p.known;
          told = p.told;
          done = record {
            seen_put = begins_refl b.put;
            seen_taken = begins_refl taken';
            own_put = p.done.own_put;
            own_taken = by-append v.number b.taken less ∙ (ap (λ (l : List Entry). l ++ by v.number less) p.done.own_taken ∙ ap (λ (l : List Entry). v.popped ++ l) (by_own v.number x));
          };
          handed = λ i t e. handed_step waiting all width (x ∷ items) views b id v w at is [] less b.put taken' same refl (nothing v.number) other t (p.handed i t e);
        };
        maker = λ h. absurd (cc (is, h));
      } in
      let kept : Rule items (set views id w) = record {
        put = b.put;
        taken = taken';
        more = b.more;
        made = b.made;
        few = b.few;
        holder = b.holder;
        opened = b.opened;
        split = b.split ∙ (sym (append_assoc (hints b.taken) (x ∷ []) items) ∙ ap (λ (l : List Hint). l ++ items) (sym (hints-append b.taken less)));
        shards = b.shards.1;
        known_more = b.known_more;
        known_taken = given-append b.made b.taken less b.known_taken (p.known, tt);
        each = each_step waiting all width (x ∷ items) views b id v w at is [] less b.put taken' same refl (nothing v.number) other mine;
      } in
      let told : Takes v x w = record { put = b.put; taken = b.taken; rest = items; moment = moment_of (x ∷ items) views b id v p; knows = refl } in
      (w, kept, told)

  -- a pass has a new view, and the lists stay
  looked : (items : List Hint) (views : List View) (b : Rule items views) (id : ℕ) (v w : View) → get_elem? views id ≡ some v → v.kind ≡ Pass
      → w.kind ≡ Pass → w.number ≡ v.number → (w.given ≡ v.given) × (w.shards ≡ v.shards) × (w.opened ≡ v.opened) × (w.handed ≡ v.handed)
      → Begins w.told_put b.put → Begins w.told_taken b.taken → HasDone (part_of w) b.put b.taken → Rule items (set views id w)
  looked items views b id v w at is kind number same told_put told_taken done =
      let p = (b.each id v at).pass is in
      let same_put : b.put ≡ b.put ++ [] = sym (append-nil b.put) in
      let same_taken : b.taken ≡ b.taken ++ [] = sym (append-nil b.taken) in
      let mine : IsSeat waiting all width b.made b.holder (set views id w) b.put b.taken id w = record {
        seen_put = done.seen_put;
        seen_taken = done.seen_taken;
        told_put = told_put;
        told_taken = told_taken;
        pass = λ h. record {
          sits = ap b.holder number ∙ p.sits;
          known = subst (λ (n : ℕ). n < b.made) (sym number) p.known;
          told = (same.0 ∙ p.told.0, same.1 ∙ p.told.1, same.2 ∙ p.told.2);
          done = done;
          handed = λ i t e. handed_step waiting all width items views b id v w at is [] [] b.put b.taken same_put same_taken (nothing v.number) (nothing v.number) t
              (p.handed i t (ap (λ (l : List Part). get_elem? l i) (sym same.3) ∙ e));
        };
        maker = λ h. absurd (cc (kind, h));
      } in
      record {
        put = b.put;
        taken = b.taken;
        more = b.more;
        made = b.made;
        few = b.few;
        holder = b.holder;
        opened = b.opened;
        split = b.split;
        shards = b.shards;
        known_more = b.known_more;
        known_taken = b.known_taken;
        each = each_step waiting all width items views b id v w at is [] [] b.put b.taken same_put same_taken (nothing v.number) (nothing v.number) mine;
      }

  pub sees : (id : ℕ) (v : View) → v.kind ≡ Pass → Tells Rule id v (Sees v)
  sees id v is items views b at =
      let old = b.each id v at in let p = old.pass is in let w : View = with_seen v b.put b.taken in (
        w,
        looked items views b id v w at is is refl (refl, refl, refl, refl) old.told_put old.told_taken
            record { seen_put = begins_refl b.put; seen_taken = begins_refl b.taken; own_put = p.done.own_put; own_taken = p.done.own_taken },
        record { put = b.put; taken = b.taken; moment = moment_of items views b id v p; knows = refl },
      )

  pub compares : (id : ℕ) (v : View) → v.kind ≡ Pass → Tells Rule id v (λ _. Compares v)
  compares id v is items views b at =
      let old = b.each id v at in let p = old.pass is in let w : View = compared v in (
        w,
        looked items views b id v w at is is refl (refl, refl, refl, refl) (begins_nil b.put) (begins_nil b.taken) record {
          seen_put = longer_begins v.put v.told_put b.put old.seen_put old.told_put;
          seen_taken = longer_begins v.taken v.told_taken b.taken old.seen_taken old.told_taken;
          own_put = p.done.own_put;
          own_taken = p.done.own_taken;
        },
        record {
          put = begins_either v.put v.told_put b.put old.seen_put old.told_put;
          taken = begins_either v.taken v.told_taken b.taken old.seen_taken old.told_taken;
          knows = refl;
        },
      )

  pub ends : (id : ℕ) (v : View) → v.kind ≡ Pass → Tells Rule id v (λ items w. (w ≡ v) × IsLast v items)
  ends id v is items views b at =
      let old = b.each id v at in let p = old.pass is in let few = b.few in let told = p.told.0 in (
        v,
        looked items views b id v v at is is refl (refl, refl, refl, refl) old.told_put old.told_taken p.done,
        (
          refl,
          record {
            put = b.put;
            taken = b.taken;
            more = b.more;
            opened = b.opened ∙ ap (λ (l : List Hint). by_first l ++ b.more) (sym p.told.2);
            split = b.split;
            given_more = given_more b.made v.given b.more (omega arith) b.known_more;
            given_taken = given_more b.made v.given b.taken (omega arith) b.known_taken;
            done = p.done;
            handed = λ i t e. (p.handed i t e).done;
          },
        ),
      )

  -- how passes are made
  pub deals : (id : ℕ) (v : View) → v.kind ≡ Maker → v.made < v.given → Forks Rule id v (made_one v) (newcomer v)
  deals id v is left items views b at =
      let old = b.each id v at in let m = old.maker is in
      let w : View = made_one v in
      let n : View = newcomer v in
      let vs : List View = set views id w in
      let made : v.made ≡ b.made = m.counts in
      let told : v.given ≡ all = m.told.0 in
      let holder : ℕ → ℕ = sat b.holder v.made (length vs) in
      let handed : (t : Part) → IsHanded b.made b.holder views b.put b.taken t → IsHanded (b.made + 1) holder (vs ++ n ∷ []) b.put b.taken t = λ t h.
      let l = h.known in
      let apart : b.holder t.number ≢ id = λ e. let k = ap (λ (z : View). z.kind) (same_at views (b.holder t.number) id h.spent.0 v h.spent.1 at e) in let none = h.spent.2 in absurd (cc (k, none, is)) in
      handed_over b.made (b.made + 1) b.holder holder views (vs ++ n ∷ []) b.put b.taken b.put b.taken t (omega arith) (λ d. d)
      (λ u e _. ap (get_elem? (vs ++ n ∷ [])) (sat_else b.holder v.made (length vs) t.number (λ same. absurd (omega arith))) ∙ at_longer vs (n ∷ []) (b.holder t.number) u (set_else views id (b.holder t.number) w apart ∙ e)) h in
      let mine : IsSeat waiting all width (b.made + 1) holder (vs ++ n ∷ []) b.put b.taken id w = record {
        seen_put = old.seen_put;
        seen_taken = old.seen_taken;
        told_put = old.told_put;
        told_taken = old.told_taken;
        pass = λ h. absurd (cc (is, h));
        maker = λ h. record { first = m.first; counts = ap (λ (k : ℕ). k + 1) made; told = m.told; put = m.put };
      } in
      let others : (j : ℕ) (u : View) → j ≢ id → get_elem? views j ≡ some u → IsSeat waiting all width (b.made + 1) holder (vs ++ n ∷ []) b.put b.taken j u = λ j u apart at_u.
      seat_over waiting all width b.made (b.made + 1) b.holder holder views (vs ++ n ∷ []) b.put b.taken b.put b.taken j u (λ f h. h) (λ f h. h)
      (λ e p. let l = p.known in pass_over waiting all width b.made (b.made + 1) b.holder holder views (vs ++ n ∷ []) b.put b.taken b.put b.taken j u (omega arith)
      (sat_else b.holder v.made (length vs) u.number (λ same. absurd (omega arith))) (λ d. d) handed p)
      (λ e. absurd (apart (((b.each j u at_u).maker e).first ∙ sym m.first))) (b.each j u at_u) in
      let own : by v.made b.put ≡ n.pushed = ap (by v.made) b.opened ∙ (by-append v.made (by_first waiting) b.more
      ∙ (ap (λ (l : List Entry). by v.made (by_first waiting) ++ l) (by_none v.made b.more (subst (λ (k : ℕ). FromGiven k b.more) (sym made) b.known_more))
      ∙ (append-nil (by v.made (by_first waiting)) ∙ (by-first v.made waiting ∙ ap (Rattle.matching.specs.Entries.own_of v.made) (sym m.put))))) in
      let none : by v.made b.taken ≡ [] = by_none v.made b.taken (subst (λ (k : ℕ). FromGiven k b.taken) (sym made) b.known_taken) in
      let last : (j : ℕ) → j ≡ length vs → IsSeat waiting all width (b.made + 1) holder (vs ++ n ∷ []) b.put b.taken j n = λ j here. record {
        seen_put = old.seen_put;
        seen_taken = old.seen_taken;
        told_put = begins_nil b.put;
        told_taken = begins_nil b.taken;
        pass = λ h. record {
          sits = sat_here b.holder v.made (length vs) ∙ sym here;
          known = omega arith;
          told = m.told;
          done = record { seen_put = old.seen_put; seen_taken = old.seen_taken; own_put = own; own_taken = none };
          handed = λ i t e. absurd (some-ne-none t (sym e));
        };
        maker = λ h. absurd (cc h);
      } in
      record {
        put = b.put;
        taken = b.taken;
        more = b.more;
        made = b.made + 1;
        few = omega arith;
        holder = holder;
        opened = b.opened;
        split = b.split;
        shards = b.shards;
        known_more = given_more b.made (b.made + 1) b.more (omega arith) b.known_more;
        known_taken = given_more b.made (b.made + 1) b.taken (omega arith) b.known_taken;
        each = λ j u e. ⊎_elim (λ (t : get_elem? vs j ≡ some u). seats_stay (IsSeat waiting all width (b.made + 1) holder (vs ++ n ∷ []) b.put b.taken) views id w mine others j u t)
            (λ t. subst (IsSeat waiting all width (b.made + 1) holder (vs ++ n ∷ []) b.put b.taken j) t.1 (last j t.0))
            (snoc_at vs n u j e);
      }
