-- What stays true of a seat over a step of another.
use Rattle.std.proofs.Common.{◌≡◌, ◌≢◌, ◌⊎◌, inl, inr, ⊎_elim, ℕ, zero, suc, ◌≤◌, List, [], ◌∷◌, ◌++◌, length, set, refl, sym, ap, ◌∙◌, subst, arith, le_refl, append-nil}
use mathlib.Core.Option.{some, some-injective, some-ne-none}
use native.Mathlib.Decide.{ℕ_discrete}
use lib.ListN.{get_elem?}
use Rattle.atomic_table.proofs.Lists.{at_set, set_else}
use Rattle.service_model_types.specs.declared.request.Hint.{Hint}
use Rattle.matching.specs.declared.view.Part.{Part}
use Rattle.matching.specs.declared.view.View.{View}
use Rattle.matching.specs.declared.view.Holder.TheVariants.{Nobody, Pass, Maker}
use Rattle.matching.specs.Entries.{Entry, Begins, by}
use Rattle.matching.specs.AtClose.{part_of, HasDone}
use Rattle.matching.specs.Rule.{IsHanded, IsPass, IsSeat, Kept}
use Rattle.matching.proofs.Entries.{begins_longer, by-append}

module _ {A : Type 0} where
  pub snoc_at : (l : List A) (a b : A) (j : ℕ) → get_elem? (l ++ a ∷ []) j ≡ some b → (get_elem? l j ≡ some b) ⊎ ((j ≡ length l) × (a ≡ b))
  snoc_at [] a b zero e = inr (refl, some-injective a b e)
  snoc_at [] a b (suc j) e = absurd (some-ne-none b (sym e))
  snoc_at (x ∷ xs) a b zero e = inl e
  snoc_at (x ∷ xs) a b (suc j) e = ⊎_elim (λ t. inl t) (λ t. inr (ap suc t.0, t.1)) (snoc_at xs a b j e)

  pub seats_stay : (K : ℕ → A → Type 0) (vs : List A) (me : ℕ) (w : A) → K me w → ((j : ℕ) (d : A) → j ≢ me → get_elem? vs j ≡ some d → K j d)
      → (j : ℕ) (d : A) → get_elem? (set vs me w) j ≡ some d → K j d
  seats_stay K vs me w mine others j d e = ⊎_elim (λ (t : (j ≡ me) × (w ≡ d)). subst (λ (x : ℕ × A). K x.0 x.1) (λ i. (sym t.0 i, t.1 i)) mine)
      (λ (t : (j ≢ me) × (get_elem? vs j ≡ some d)). others j d t.0 t.1) (at_set vs me j w d e)

  -- what stands at one place
  pub same_at : (l : List A) (i j : ℕ) (u v : A) → get_elem? l i ≡ some u → get_elem? l j ≡ some v → i ≡ j → u ≡ v
  same_at l i j u v e f h = some-injective u v (sym e ∙ (ap (get_elem? l) h ∙ f))

abbrev pick : {P : Type 0} → Dec P → ℕ → ℕ → ℕ
pick (yes _) a b = a
pick (no _) a b = b

-- the function f, but a at i
pub sat : (ℕ → ℕ) → ℕ → ℕ → ℕ → ℕ
sat f i a j = pick (ℕ_discrete j i) a (f j)

pub sat_here : (f : ℕ → ℕ) (i a : ℕ) → sat f i a i ≡ a
unfolding sat
sat_here f i a = go (ℕ_discrete i i)
  where
    go : (d : Dec (i ≡ i)) → pick d a (f i) ≡ a
    go (yes _) = refl
    go (no n) = absurd (n refl)

pub sat_else : (f : ℕ → ℕ) (i a j : ℕ) → j ≢ i → sat f i a j ≡ f j
unfolding sat
sat_else f i a j other = go (ℕ_discrete j i)
  where
    go : (d : Dec (j ≡ i)) → pick d a (f j) ≡ f j
    go (yes e) = absurd (other e)
    go (no _) = refl

-- a pass that did nothing while the lists grew
pub done_over : (t : Part) (put taken more less : List Entry) → by t.number more ≡ [] → by t.number less ≡ [] → HasDone t put taken → HasDone t (put ++ more) (taken ++ less)
done_over t put taken more less none_more none_less h = record {
  seen_put = begins_longer t.put put more h.seen_put;
  seen_taken = begins_longer t.taken taken less h.seen_taken;
  own_put = by-append t.number put more ∙ (ap (λ (l : List Entry). by t.number put ++ l) none_more ∙ (append-nil (by t.number put) ∙ h.own_put));
  own_taken = by-append t.number taken less ∙ (ap (λ (l : List Entry). by t.number taken ++ l) none_less ∙ (append-nil (by t.number taken) ∙ h.own_taken));
}

pub handed_over : (made made' : ℕ) (holder holder' : ℕ → ℕ) (vs vs' : List View) (put taken put' taken' : List Entry) (t : Part) → made ≤ made' → (HasDone t put taken → HasDone t put' taken')
    → ((u : View) → get_elem? vs (holder t.number) ≡ some u → u.kind ≡ Nobody → get_elem? vs' (holder' t.number) ≡ some u) → IsHanded made holder vs put taken t → IsHanded made' holder' vs' put' taken' t
handed_over made made' holder holder' vs vs' put taken put' taken' t more done keep h = record {
  known = let l = h.known in omega arith;
  done = done h.done;
  spent = (h.spent.0, keep h.spent.0 h.spent.1 h.spent.2, h.spent.2);
}

module _ (waiting : List Hint) (all width : ℕ) where
  pub pass_over : (made made' : ℕ) (holder holder' : ℕ → ℕ) (vs vs' : List View) (put taken put' taken' : List Entry) (id : ℕ) (d : View) → made ≤ made' → holder' d.number ≡ holder d.number
      → (HasDone (part_of d) put taken → HasDone (part_of d) put' taken') → ((t : Part) → IsHanded made holder vs put taken t → IsHanded made' holder' vs' put' taken' t)
      → IsPass waiting all width made holder vs put taken id d → IsPass waiting all width made' holder' vs' put' taken' id d
  pass_over made made' holder holder' vs vs' put taken put' taken' id d more sits done handed h = record {
    sits = sits ∙ h.sits;
    known = let l = h.known in omega arith;
    told = h.told;
    done = done h.done;
    handed = λ i t e. handed t (h.handed i t e);
  }

  pub seat_over : (made made' : ℕ) (holder holder' : ℕ → ℕ) (vs vs' : List View) (put taken put' taken' : List Entry) (id : ℕ) (d : View)
      → ((f : List Entry) → Begins f put → Begins f put') → ((f : List Entry) → Begins f taken → Begins f taken')
      → (d.kind ≡ Pass → IsPass waiting all width made holder vs put taken id d → IsPass waiting all width made' holder' vs' put' taken' id d) → (d.kind ≡ Maker → made ≡ made')
      → IsSeat waiting all width made holder vs put taken id d → IsSeat waiting all width made' holder' vs' put' taken' id d
  seat_over made made' holder holder' vs vs' put taken put' taken' id d grows_put grows_taken pass maker h = record {
    seen_put = grows_put d.put h.seen_put;
    seen_taken = grows_taken d.taken h.seen_taken;
    told_put = grows_put d.told_put h.told_put;
    told_taken = grows_taken d.told_taken h.told_taken;
    pass = λ e. pass e (h.pass e);
    maker = λ e. let m = h.maker e in record { first = m.first; counts = m.counts ∙ maker e; told = m.told; put = m.put };
  }

  -- a pass has a new view, and the lists grow by entries of its own
  module _ (items : List Hint) (views : List View) (b : Kept waiting all width items views) (id : ℕ) (v w : View) (at : get_elem? views id ≡ some v) (is : v.kind ≡ Pass)
      (more less put' taken' : List Entry) (is_put : put' ≡ b.put ++ more) (is_taken : taken' ≡ b.taken ++ less) (none_more : (n : ℕ) → n ≢ v.number → by n more ≡ []) (none_less : (n : ℕ) → n ≢ v.number → by n less ≡ []) where
    done_step : (t : Part) → t.number ≢ v.number → HasDone t b.put b.taken → HasDone t put' taken'
    done_step t ne h = subst (λ (z : List Entry × List Entry). HasDone t z.0 z.1) (λ i. (sym is_put i, sym is_taken i)) (done_over t b.put b.taken more less (none_more t.number ne) (none_less t.number ne) h)

    pub handed_step : (t : Part) → IsHanded b.made b.holder views b.put b.taken t → IsHanded b.made b.holder (set views id w) put' taken' t
    handed_step t h =
        let apart : b.holder t.number ≢ id = λ e. let k = ap (λ (z : View). z.kind) (same_at views (b.holder t.number) id h.spent.0 v h.spent.1 at e) in let none = h.spent.2 in absurd (cc (k, none, is)) in
        let ne : t.number ≢ v.number = λ e. apart (ap b.holder e ∙ ((b.each id v at).pass is).sits) in
        handed_over b.made b.made b.holder b.holder views (set views id w) b.put b.taken put' taken' t (le_refl b.made) (done_step t ne) (λ u e _. set_else views id (b.holder t.number) w apart ∙ e) h

    pub each_step : IsSeat waiting all width b.made b.holder (set views id w) put' taken' id w
        → (j : ℕ) (d : View) → get_elem? (set views id w) j ≡ some d → IsSeat waiting all width b.made b.holder (set views id w) put' taken' j d
    each_step mine = seats_stay (IsSeat waiting all width b.made b.holder (set views id w) put' taken') views id w mine
        (λ j d other at_d. seat_over b.made b.made b.holder b.holder views (set views id w) b.put b.taken put' taken' j d
        (λ f h. subst (Begins f) (sym is_put) (begins_longer f b.put more h)) (λ f h. subst (Begins f) (sym is_taken) (begins_longer f b.taken less h))
        (λ e p. let ne : d.number ≢ v.number = λ same. other (sym p.sits ∙ (ap b.holder same ∙ ((b.each id v at).pass is).sits)) in
        pass_over b.made b.made b.holder b.holder views (set views id w) b.put b.taken put' taken' j d (le_refl b.made) refl (done_step (part_of d) ne) handed_step p)
        (λ e. refl) (b.each j d at_d))
