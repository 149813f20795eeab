-- The notes that passes give each other keep the rule, and so does a pass that is handed in.
use Rattle.std.proofs.Common.{◌≡◌, ◌≢◌, ⊎_elim, ℕ, zero, suc, List, [], ◌∷◌, ◌++◌, set, refl, sym, ap, ◌∙◌, subst, le_refl}
use mathlib.Core.Option.{some, some-ne-none}
use lib.ListN.{get_elem?}
use Rattle.atomic_table.proofs.Lists.{at_longer, set_else, set_again}
use Rattle.crossbeam_queue.specs.Fifo.{Forks, Merges}
use Rattle.service_model_types.specs.declared.request.Hint.{Hint}
use Rattle.matching.specs.declared.view.Part.{Part}
use Rattle.matching.specs.declared.view.View.{View}
use Rattle.matching.specs.declared.view.Holder.TheVariants.{Nobody, Note, Pass}
use Rattle.matching.specs.AtClose.{part_of}
use Rattle.matching.specs.PassSteps.{nobody}
use Rattle.matching.specs.Rule.{IsHanded, IsSeat, Kept}
use Rattle.matching.specs.Meetings.{Agree}
use Rattle.matching.specs.ToldHints.{note, told_of, compared, adopted, taken_in, Comparable, Compares, IsQuiet}
use Rattle.matching.proofs.Entries.{begins_nil, is_longer}
use Rattle.matching.proofs.Stays.{snoc_at, seats_stay, same_at, handed_over, pass_over, seat_over}

set_at : {A : Type 0} (l : List A) (i : ℕ) (a b : A) → get_elem? l i ≡ some b → get_elem? (set l i a) i ≡ some a
set_at [] i a b e = absurd (some-ne-none b (sym e))
set_at (x ∷ xs) zero a b e = refl
set_at (x ∷ xs) (suc i) a b e = set_at xs i a b e

module _ (waiting : List Hint) (all width : ℕ) where
  abbrev Rule : List Hint → List View → Type 0
  Rule = Kept waiting all width

  -- a note of what a pass has seen
  pub notes : (id : ℕ) (v : View) → v.kind ≡ Pass → Forks Rule id v v (note v)
  notes id v is items views b at =
      let old = b.each id v at in let vs : List View = views ++ note v ∷ [] in
      let handed : (t : Part) → IsHanded b.made b.holder views b.put b.taken t → IsHanded b.made b.holder vs b.put b.taken t = λ t h.
      handed_over b.made b.made b.holder b.holder views vs b.put b.taken b.put b.taken t (le_refl b.made) (λ d. d) (λ u e _. at_longer views (note v ∷ []) (b.holder t.number) u e) h in
      let mine : (j : ℕ) → IsSeat waiting all width b.made b.holder vs b.put b.taken j (note v) = λ j. record {
        seen_put = old.seen_put;
        seen_taken = old.seen_taken;
        told_put = begins_nil b.put;
        told_taken = begins_nil b.taken;
        pass = λ h. absurd (cc h);
        maker = λ h. absurd (cc h);
      } in
      subst (λ (xs : List View). Rule items (xs ++ note v ∷ [])) (sym (set_again views id v at)) record {
        put = b.put;
        taken = b.taken;
        more = b.more;
        made = b.made;
        few = b.few;
        holder = b.holder;
        opened = b.opened;
        split = b.split;
        shards = b.shards;
        known_more = b.known_more;
        known_taken = b.known_taken;
        each = λ j d e. ⊎_elim
            (λ (t : get_elem? views j ≡ some d). seat_over waiting all width b.made b.made b.holder b.holder views vs b.put b.taken b.put b.taken j d (λ f h. h) (λ f h. h)
            (λ k p. pass_over waiting all width b.made b.made b.holder b.holder views vs b.put b.taken b.put b.taken j d (le_refl b.made) refl (λ x. x) handed p) (λ k. refl) (b.each j d t))
            (λ t. subst (IsSeat waiting all width b.made b.holder vs b.put b.taken j) t.1 (mine j))
            (snoc_at views (note v) d j e);
      }

  -- a pass takes in another seat, which is spent
  module _ (items : List Hint) (views : List View) (b : Rule items views) (id other : ℕ) (v w x : View) (at : get_elem? views id ≡ some v) (is : v.kind ≡ Pass) (apart : other ≢ id) (at_w : get_elem? views other ≡ some w)
      (some_kind : w.kind ≢ Nobody) where
    handed_joined : (t : Part) → IsHanded b.made b.holder views b.put b.taken t → IsHanded b.made b.holder (set (set views id x) other nobody) b.put b.taken t
    handed_joined t h =
        let far : b.holder t.number ≢ id = λ e. let k = ap (λ (z : View). z.kind) (same_at views (b.holder t.number) id h.spent.0 v h.spent.1 at e) in let none = h.spent.2 in absurd (cc (none, is, k)) in
        let far' : b.holder t.number ≢ other = λ e. let k = ap (λ (z : View). z.kind) (same_at views (b.holder t.number) other h.spent.0 w h.spent.1 at_w e) in let none = h.spent.2 in some_kind (sym k ∙ none) in
        handed_over b.made b.made b.holder b.holder views (set (set views id x) other nobody) b.put b.taken b.put b.taken t (le_refl b.made) (λ d. d)
        (λ u e _. set_else (set views id x) other (b.holder t.number) nobody far' ∙ (set_else views id (b.holder t.number) x far ∙ e)) h

    joined : IsSeat waiting all width b.made b.holder (set (set views id x) other nobody) b.put b.taken id x → Rule items (set (set views id x) other nobody)
    joined mine =
        let vs : List View = set (set views id x) other nobody in
        let nothing : IsSeat waiting all width b.made b.holder vs b.put b.taken other nobody = record {
          seen_put = begins_nil b.put;
          seen_taken = begins_nil b.taken;
          told_put = begins_nil b.put;
          told_taken = begins_nil b.taken;
          pass = λ h. absurd (cc h);
          maker = λ h. absurd (cc h);
        } in
        record {
          put = b.put;
          taken = b.taken;
          more = b.more;
          made = b.made;
          few = b.few;
          holder = b.holder;
          opened = b.opened;
          split = b.split;
          shards = b.shards;
          known_more = b.known_more;
          known_taken = b.known_taken;
          each = seats_stay (IsSeat waiting all width b.made b.holder vs b.put b.taken) (set views id x) other nobody nothing
              (λ j d apart_d at_d. seats_stay (IsSeat waiting all width b.made b.holder vs b.put b.taken) views id x mine
              (λ i u other_u at_u. seat_over waiting all width b.made b.made b.holder b.holder views vs b.put b.taken b.put b.taken i u (λ f h. h) (λ f h. h)
              (λ e p. pass_over waiting all width b.made b.made b.holder b.holder views vs b.put b.taken b.put b.taken i u (le_refl b.made) refl (λ y. y) handed_joined p) (λ e. refl) (b.each i u at_u))
              j d at_d);
        }

  was_there : (views : List View) (id other : ℕ) (x w : View) → other ≢ id → get_elem? (set views id x) other ≡ some w → get_elem? views other ≡ some w
  was_there views id other x w apart there = sym (set_else views id other x apart) ∙ there

  pub tells : (id : ℕ) (v : View) (other : ℕ) (w : View) → v.kind ≡ Pass → w.kind ≡ Note → Merges Rule id v other w (told_of v w) nobody
  tells id v other w is note_kind items views b at apart there =
      let x : View = told_of v w in let at_w = was_there views id other x w apart there in let old = b.each id v at in let from = b.each other w at_w in let p = old.pass is in
      let some_kind : w.kind ≢ Nobody = λ z. absurd (cc (note_kind, z)) in
      joined items views b id other v w x at is apart at_w some_kind record {
        seen_put = old.seen_put;
        seen_taken = old.seen_taken;
        told_put = from.seen_put;
        told_taken = from.seen_taken;
        pass = λ h. record { sits = p.sits; known = p.known; told = p.told; done = p.done; handed = λ i t e. handed_joined items views b id other v w x at is apart at_w some_kind t (p.handed i t e) };
        maker = λ h. absurd (cc (is, h));
      }

  pub adopts : (id : ℕ) (v : View) (other : ℕ) (w : View) → v.kind ≡ Pass → w.kind ≡ Note → Merges Rule id v other w (adopted v w) nobody
  adopts id v other w is note_kind items views b at apart there =
      let x : View = adopted v w in let at_w = was_there views id other x w apart there in let old = b.each id v at in let from = b.each other w at_w in let p = old.pass is in
      let some_kind : w.kind ≢ Nobody = λ z. absurd (cc (note_kind, z)) in
      joined items views b id other v w x at is apart at_w some_kind record {
        seen_put = from.seen_put;
        seen_taken = from.seen_taken;
        told_put = old.told_put;
        told_taken = old.told_taken;
        pass = λ h. record {
          sits = p.sits;
          known = p.known;
          told = p.told;
          done = record { seen_put = from.seen_put; seen_taken = from.seen_taken; own_put = p.done.own_put; own_taken = p.done.own_taken };
          handed = λ i t e. handed_joined items views b id other v w x at is apart at_w some_kind t (p.handed i t e);
        };
        maker = λ h. absurd (cc (is, h));
      }

  pub takes_in : (id : ℕ) (v : View) (other : ℕ) (w : View) → v.kind ≡ Pass → w.kind ≡ Pass → Merges Rule id v other w (taken_in v w) nobody
  takes_in id v other w is pass_kind items views b at apart there =
      let x : View = taken_in v w in let at_w = was_there views id other x w apart there in let old = b.each id v at in let from = b.each other w at_w in let p = old.pass is in let q = from.pass pass_kind in
      let some_kind : w.kind ≢ Nobody = λ z. absurd (cc (pass_kind, z)) in
      let vs : List View = set (set views id x) other nobody in
      let newest : IsHanded b.made b.holder vs b.put b.taken (part_of w) = record {
        known = q.known;
        done = q.done;
        spent = (nobody, ap (get_elem? vs) q.sits ∙ set_at (set views id x) other nobody w there, refl);
      } in
      joined items views b id other v w x at is apart at_w some_kind record {
        seen_put = old.seen_put;
        seen_taken = old.seen_taken;
        told_put = old.told_put;
        told_taken = old.told_taken;
        pass = λ h. record {
          sits = p.sits;
          known = p.known;
          told = p.told;
          done = p.done;
          handed = λ i t e. ⊎_elim (λ (k : get_elem? v.handed i ≡ some t). handed_joined items views b id other v w x at is apart at_w some_kind t (p.handed i t k))
              (λ k. subst (IsHanded b.made b.holder vs b.put b.taken) k.1 newest) (snoc_at v.handed (part_of w) t i e);
        };
        maker = λ h. absurd (cc (is, h));
      }

-- both have seen the longer of what they had seen
agree_at : (a b : View) → IsQuiet b → Comparable b.put a.put → Comparable b.taken a.taken → Agree a b (adopted a (note (compared (told_of b (note a))))) (compared (told_of b (note a)))
agree_at a b quiet put taken = record {
  put = is_longer a.put b.put put;
  taken = is_longer a.taken b.taken taken;
  first = refl;
  second = λ i. record (compared (told_of b (note a))) { told_put = sym quiet.0 i; told_taken = sym quiet.1 i };
}

pub agree_of : (a b b1 b2 c d n1 n2 : View) → IsQuiet b → n1 ≡ note a → b1 ≡ told_of b n1 → Compares b1 b2 → n2 ≡ note b2 → c ≡ adopted a n2 → d ≡ b2 → Agree a b c d
agree_of a b b1 b2 c d n1 n2 quiet is_n1 is_b1 looked is_n2 is_c is_d =
    let told : b1 ≡ told_of b (note a) = is_b1 ∙ ap (told_of b) is_n1 in
    let now : b2 ≡ compared (told_of b (note a)) = looked.knows ∙ ap compared told in
    let first : c ≡ adopted a (note (compared (told_of b (note a)))) = is_c ∙ ap (adopted a) (is_n2 ∙ ap note now) in
    subst (λ (z : View × View). Agree a b z.0 z.1) (λ i. (sym first i, sym (is_d ∙ now) i))
    (agree_at a b quiet (subst (λ (z : View). Comparable z.put z.told_put) told looked.put) (subst (λ (z : View). Comparable z.taken z.told_taken) told looked.taken))
