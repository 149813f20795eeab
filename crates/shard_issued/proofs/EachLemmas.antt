-- what is kept of each run, as runs are added and change
use Rattle.std.proofs.Common.{◌≡◌, ◌≢◌, ℕ, ◌+◌, ◌<◌, ◌≤◌, ◌⊎◌, inl, inr, List, [], ◌∷◌, ◌++◌, length, length-append, length-set, refl, sym, ap, ◌∙◌, subst, arith, zero, suc, slice_index_or, slice_set, Option, Some, None, IfSome}
use Rattle.std.proofs.lemmas.List.{get_or-set_same, get_or-set_other}
use Rattle.std.proofs.lemmas.Option.{slice_get_within}
use Rattle.std.specs.Prelude.{slice_get, unwrap_or}
use Rattle.service_model.specs.RunState.{RunState}
use Rattle.timeouts.specs.Firsts.{first_due, KeepsFirsts}
use Rattle.timeouts.specs.declared.due.Due.{Due}
use Rattle.shard_issued.specs.Outstanding.{AreCaughtUp, KeepsEach, HasFirsts, HasShown, unchanged}
use Rattle.shard_issued.specs.declared.changed.Changed.{Changed}

same-or-apart : (m n : ℕ) → (m ≡ n) ⊎ (m ≢ n)
same-or-apart zero zero = inl refl
same-or-apart zero (suc n) = inr (λ h. omega (arith, h))
same-or-apart (suc m) zero = inr (λ h. omega (arith, h))
same-or-apart (suc m) (suc n) = elim (same-or-apart m n) [ inl h ↦ inl (ap suc h) | inr h ↦ inr (λ e. h (omega (arith, e))) ]

one-place : (m n : ℕ) → ◌≡◌ {A = Option ℕ} (Some m) (Some n) → m ≡ n
one-place m n e = ap (λ o. unwrap_or o 0) e

get-set-other : (runs : List RunState) (n k : ℕ) (s t : RunState) → k ≢ n → slice_get (slice_set runs n s) k ≡ Some t → slice_get runs k ≡ Some t
get-set-other [] n k s t apart there = there
get-set-other (r ∷ runs) zero zero s t apart there = absurd (apart refl)
get-set-other (r ∷ runs) zero (suc k) s t apart there = there
get-set-other (r ∷ runs) (suc n) zero s t apart there = there
get-set-other (r ∷ runs) (suc n) (suc k) s t apart there = get-set-other runs n k s t (λ e. apart (ap suc e)) there

get-push : (runs : List RunState) (k : ℕ) (s t : RunState) → k ≢ length runs → slice_get (runs ++ s ∷ []) k ≡ Some t → slice_get runs k ≡ Some t
get-push [] zero s t apart there = absurd (apart refl)
get-push [] (suc k) s t apart there = there
get-push (r ∷ runs) zero s t apart there = there
get-push (r ∷ runs) (suc k) s t apart there = get-push runs k s t (λ e. apart (ap suc e)) there

pub index-push : {A : Type 0} (d : A) (slots : List A) (k : ℕ) → slice_index_or (slots ++ d ∷ []) k d ≡ slice_index_or slots k d
index-push d [] zero = refl
index-push d [] (suc k) = refl
index-push d (o ∷ slots) zero = refl
index-push d (o ∷ slots) (suc k) = index-push d slots k

no-place : (o : Option ℕ) (k : ℕ) → o ≡ None → o ≢ Some k
no-place o k none e = let clash = sym none ∙ e in cc

-- all first deadlines are kept, where no run changed
pub firsts-kept : (retention : ℕ) (slots : List (Option Due)) (changed : Changed) (runs : List RunState) → AreCaughtUp changed → HasFirsts retention slots changed runs → KeepsFirsts retention 1 slots runs
firsts-kept retention slots changed runs caught_up h = record {
  count = h.count;
  first = λ k s there. let next : k + 1 ≡ 1 + k = omega arith in h.each k s there (no-place changed.grown k caught_up.grown) (no-place changed.made k caught_up.made) ∙ ap (λ n. first_due retention n s) next;
}

-- what stands at a place where this was put, and elsewhere
put-there : {A B : Type 0} (says : A → B) (fact : ℕ → RunState → B) (none : A) (slots : List A) (n : ℕ) (runs : List RunState) (s : RunState) (x : A) → n < length slots → slice_get runs n ≡ Some s → says x ≡ fact n s →
    (k : ℕ) (t : RunState) → slice_get runs k ≡ Some t → (k ≢ n → says (slice_index_or slots k none) ≡ fact k t) → says (slice_index_or (slice_set slots n x) k none) ≡ fact k t
put-there says fact none slots n runs s x low there is k t at before = elim (same-or-apart k n) [
  | inl same ↦
      let which : s ≡ t = ap (λ o. unwrap_or o s) (sym there ∙ ap (slice_get runs) (sym same) ∙ at) in
      ap (λ m. says (slice_index_or (slice_set slots n x) m none)) same ∙ ap says (get_or-set_same slots n x none low) ∙ is
      ∙ ap (λ m. fact m s) (sym same) ∙ ap (fact k) which
  | inr apart ↦ ap says (get_or-set_other slots n k x none apart) ∙ before apart
]

-- the run that grew was looked up
pub grown-caught-up : {A B : Type 0} {says : A → B} {fact : ℕ → RunState → B} {none : A} (slots : List A) (n : ℕ) (made : Option ℕ) (runs : List RunState) (s : RunState) (x : A) → slice_get runs n ≡ Some s → says x ≡ fact n s →
    KeepsEach says fact none slots (record { grown = Some n; made = made }) runs → KeepsEach says fact none (slice_set slots n x) (record { grown = None; made = made }) runs
grown-caught-up {says = says} {fact = fact} {none = none} slots n made runs s x there is h = record {
  count = length-set slots n x ∙ h.count;
  grown = tt;
  made = h.made;
  each = λ k t at _ past. put-there says fact none slots n runs s x (omega (arith, h.grown, h.count)) there is k t at (λ apart. h.each k t at (λ e. apart (sym (one-place n k e))) past);
}

-- the run that was made was looked up
pub made-caught-up : {A B : Type 0} {says : A → B} {fact : ℕ → RunState → B} {none : A} (slots : List A) (n : ℕ) (runs : List RunState) (s : RunState) (x : A) → slice_get runs n ≡ Some s → says x ≡ fact n s →
    KeepsEach says fact none slots (record { grown = None; made = Some n }) runs → KeepsEach says fact none (slice_set slots n x) unchanged runs
made-caught-up {says = says} {fact = fact} {none = none} slots n runs s x there is h = record {
  count = length-set slots n x ∙ h.count;
  grown = tt;
  made = tt;
  each = λ k t at past _. put-there says fact none slots n runs s x (omega (arith, h.made, h.count)) there is k t at (λ apart. h.each k t at past (λ e. apart (sym (one-place n k e))));
}

-- a run grew
pub each-grown : {A B : Type 0} {says : A → B} {fact : ℕ → RunState → B} {d : A} (slots : List A) (changed : Changed) (n : ℕ) (runs : List RunState) (s : RunState) → AreCaughtUp changed → n < length runs →
    KeepsEach says fact d slots changed runs → KeepsEach says fact d slots (record { grown = Some n; made = None }) (slice_set runs n s)
each-grown slots changed n runs s caught_up there h = record {
  count = h.count ∙ sym (length-set runs n s);
  grown = subst (λ k. n < k) (sym (length-set runs n s)) there;
  made = tt;
  each = λ k t at apart _. h.each k t (get-set-other runs n k s t (λ e. apart (ap Some (sym e))) at) (no-place changed.grown k caught_up.grown) (no-place changed.made k caught_up.made);
}

within-more : (o : Option ℕ) (a b : ℕ) → a ≤ b → IfSome o (λ n. n < a) → IfSome o (λ n. n < b)
within-more None a b more h = tt
within-more (Some n) a b more h = omega (arith, more, h)

-- a run was added
pub each-added : {A B : Type 0} {says : A → B} {fact : ℕ → RunState → B} {d : A} (slots : List A) (changed : Changed) (runs : List RunState) (s : RunState) → changed.made ≡ None →
    KeepsEach says fact d slots changed runs → KeepsEach says fact d (slots ++ d ∷ []) (record { grown = changed.grown; made = Some (length runs) }) (runs ++ s ∷ [])
each-added {says = says} {d = d} slots changed runs s none h = record {
  count = length-append slots (d ∷ []) ∙ ap (λ k. k + 1) h.count ∙ sym (length-append runs (s ∷ []));
  grown = within-more changed.grown (length runs) (length (runs ++ s ∷ [])) (omega (arith, length-append runs (s ∷ []))) h.grown;
  made = omega (arith, length-append runs (s ∷ []));
  each = λ k t at past apart. ap says (index-push d slots k) ∙ h.each k t (get-push runs k s t (λ e. apart (ap Some (sym e))) at) past (no-place changed.made k none);
}

set-there : (runs : List RunState) (n : ℕ) (s : RunState) → n < length runs → slice_get (slice_set runs n s) n ≡ Some s
set-there [] n s low = absurd (omega (arith, low))
set-there (r ∷ runs) zero s low = refl
set-there (r ∷ runs) (suc n) s low = set-there runs n s (omega (arith, low))

-- another run stands at a place, of which another thing is kept
pub each-set : {A B : Type 0} {says : A → B} {fact : ℕ → RunState → B} {d : A} (slots : List A) (changed : Changed) (runs : List RunState) (n : ℕ) (s : RunState) (x : A) → n < length runs → says x ≡ fact n s →
    KeepsEach says fact d slots changed runs → KeepsEach says fact d (slice_set slots n x) changed (slice_set runs n s)
each-set {says = says} {fact = fact} {d = d} slots changed runs n s x low is h = record {
  count = length-set slots n x ∙ h.count ∙ sym (length-set runs n s);
  grown = subst (λ l. IfSome changed.grown (λ k. k < l)) (sym (length-set runs n s)) h.grown;
  made = subst (λ l. IfSome changed.made (λ k. k < l)) (sym (length-set runs n s)) h.made;
  each = λ k t at past apart.
      put-there says fact d slots n (slice_set runs n s) s x (omega (arith, low, h.count)) (set-there runs n s low) is k t at (λ other. h.each k t (get-set-other runs n k s t other at) past apart);
}

pub each-fresh : {A B : Type 0} {says : A → B} {fact : ℕ → RunState → B} {d : A} (slots : List A) (runs : List RunState) → slots ≡ [] → runs ≡ [] → KeepsEach says fact d slots unchanged runs
each-fresh {A = A} {says = says} {fact = fact} {d = d} slots runs no_slots no_runs = subst (λ (l : List A). KeepsEach says fact d l unchanged runs) (sym no_slots) (subst (λ (l : List RunState). KeepsEach says fact d [] unchanged l) (sym no_runs)
    (record { count = refl; grown = tt; made = tt; each = λ k s there _ _. absurd (let past = slice_get_within [] k s there in omega (arith, past)) }))

-- a run's state is as it was, so all are
pub each-same : {A B : Type 0} {says : A → B} {fact : ℕ → RunState → B} {d : A} (slots : List A) (changed : Changed) (runs now : List RunState) → now ≡ runs → KeepsEach says fact d slots changed runs → KeepsEach says fact d slots changed now
each-same {says = says} {fact = fact} {d = d} slots changed runs now is h = subst (λ l. KeepsEach says fact d slots changed l) (sym is) h

-- so many events as a run showed, that had not changed
pub shown-at : (counts : List ℕ) (changed : Changed) (runs : List RunState) (n : ℕ) (s : RunState) → AreCaughtUp changed → slice_get runs n ≡ Some s → HasShown counts changed runs → slice_index_or counts n 0 ≡ length s.shown
shown-at counts changed runs n s caught_up there h = h.each n s there (no-place changed.grown n caught_up.grown) (no-place changed.made n caught_up.made)
