-- pages, as a number is written and as one more comes
use Rattle.std.proofs.Common.{◌≡◌, ◌≢◌, ℕ, ◌+◌, ◌*◌, ◌/◌, ◌%◌, ◌^◌, ◌-◌, ◌<◌, ◌≤◌, ◌⊎◌, inl, inr, List, length, sym, ap, arith, subst, ◌∙◌}
use Rattle.std.specs.Prelude.{IsTrue, ◌↔◌, true, false, replicate, slice_index_or, slice_set, take, [], ◌++◌, ◌∷◌}
use Rattle.std.proofs.lemmas.Bool.{cases_eq, cases_lt}
use Rattle.std.proofs.lemmas.List.{get_or-replicate, get_or-set_other, get_or-set_same, get_or_append_left, get_or_past, get_or_push, length-replicate, length_push}
use Rattle.sparse_numbers.specs.Pages.{AreWhole, IsPaged, IsThere, IsWritten, SameNumbers, number_at, page_in}

-- a list without numbers is filled up
pub filled : (xs : List ℕ) (n : ℕ) → xs ≡ [] → n ≡ 0 → take 1024 xs ++ replicate (1024 - n) 0 ≡ replicate 1024 0
filled xs n none zero = ap (λ ys. take 1024 ys ++ replicate (1024 - n) 0) none ∙ ap (λ m. replicate (1024 - m) 0) zero

-- all numbers of a page are 0, as they are of one that is not there
pub zeros-are : (k : ℕ) → slice_index_or {A = ℕ} (replicate 1024 0) k 0 ≡ 0
zeros-are k = by (cases_lt k 1024)
  where
    by : (k < 1024) ⊎ (1024 ≤ k) → slice_index_or {A = ℕ} (replicate 1024 0) k 0 ≡ 0
    by (inl low) = get_or-replicate 1024 k 0 0 low
    by (inr high) = get_or_past (replicate 1024 0) k 0 (let is : length {A = ℕ} (replicate 1024 0) ≡ 1024 = length-replicate {A = ℕ} 1024 0 in omega (arith, is, high))

-- a page takes the place of one whose numbers are the same
pub same-set : (ps : List (List ℕ)) (p : ℕ) (page : List ℕ) → p < length ps → ((k : ℕ) → slice_index_or page k 0 ≡ slice_index_or (page_in ps p) k 0) → SameNumbers ps (slice_set ps p page)
same-set ps p page low same k = by (cases_eq (k / 1024) p)
  where
    by : ((k / 1024) ≡ p) ⊎ ((k / 1024) ≢ p) → number_at (slice_set ps p page) k ≡ number_at ps k
    by (inl here) =
        ap (λ q. slice_index_or (page_in (slice_set ps p page) q) (k % 1024) 0) here ∙ ap (λ l. slice_index_or l (k % 1024) 0) (get_or-set_same ps p page [] low)
        ∙ same (k % 1024) ∙ ap (λ q. slice_index_or (page_in ps q) (k % 1024) 0) (sym here)
    by (inr other) = ap (λ l. slice_index_or l (k % 1024) 0) (get_or-set_other ps p (k / 1024) page [] other)

-- one that was not there was made
pub made : (ps : List (List ℕ)) (i : ℕ) (page : List ℕ) → i < 1024 * length ps → AreWhole ps → ((i % 1024 < length (page_in ps (i / 1024))) → ⊥) → page ≡ replicate 1024 0 → SameNumbers ps (slice_set ps (i / 1024) page)
made ps i page low whole none zeros = same-set ps (i / 1024) page (omega (arith, low)) (λ k. ap (λ l. slice_index_or l k 0) zeros ∙ zeros-are k ∙ sym (get_or_past (page_in ps (i / 1024)) k 0 (empty k (whole (i / 1024)))))
  where
    empty : (k : ℕ) → (length (page_in ps (i / 1024)) ≡ 0) ⊎ (length (page_in ps (i / 1024)) ≡ 1024) → length (page_in ps (i / 1024)) ≤ k
    empty k (inl nothing) = omega (arith, nothing)
    empty k (inr all) = absurd (none (omega (arith, all)))

pub paged-written : (ps qs : List (List ℕ)) (len i v : ℕ) → i < len → IsPaged ps len → IsWritten ps qs i v → IsPaged qs len
paged-written ps qs len i v low h w = record {
  whole = λ p. subst (λ n. (n ≡ 0) ⊎ (n ≡ 1024)) (sym (w.shape p)) (h.whole p);
  blank = λ k from. w.others k (λ same. absurd (omega (arith, low, from, same))) ∙ h.blank k from;
  there = λ k from to. let was = h.there k from (omega (arith, to, w.count)) in omega (arith, was, w.shape (k / 1024));
  fits = omega (arith, h.fits, w.count);
  few = omega (arith, h.few, w.count);
}

pub paged-next : (ps : List (List ℕ)) (len : ℕ) → IsPaged ps len → len < 1024 * length ps → IsPaged ps (len + 1)
paged-next ps len h low = record {
  whole = h.whole;
  blank = λ k from. h.blank k (omega (arith, from));
  there = λ k from to. h.there k (omega (arith, from)) to;
  fits = omega (arith, low);
  few = h.few;
}

-- a page came after the others
module _ (ps : List (List ℕ)) (page : List ℕ) (zeros : page ≡ replicate 1024 0) where
  pub longer : length (ps ++ page ∷ []) ≡ length ps + 1
  longer = length_push ps page

  at-end : (p : ℕ) → p ≡ length ps → page_in (ps ++ page ∷ []) p ≡ replicate 1024 0
  at-end p is = get_or_push ps page [] p (sym is) ∙ zeros

  pub more-same : SameNumbers ps (ps ++ page ∷ [])
  more-same k = by (cases_lt (k / 1024) (length ps)) (cases_eq (k / 1024) (length ps))
    where
      by : ((k / 1024) < length ps) ⊎ (length ps ≤ (k / 1024)) → ((k / 1024) ≡ length ps) ⊎ ((k / 1024) ≢ length ps) → number_at (ps ++ page ∷ []) k ≡ number_at ps k
      by (inl low) e = ap (λ l. slice_index_or l (k % 1024) 0) (get_or_append_left ps (page ∷ []) [] (k / 1024) low)
      by (inr high) (inl end) =
          ap (λ l. slice_index_or l (k % 1024) 0) (at-end (k / 1024) end) ∙ zeros-are (k % 1024) ∙ sym (ap (λ l. slice_index_or l (k % 1024) 0) (get_or_past ps (k / 1024) [] high))
      by (inr high) (inr past) =
          ap (λ l. slice_index_or l (k % 1024) 0) (get_or_past (ps ++ page ∷ []) (k / 1024) [] (omega (arith, longer, high, past)))
          ∙ sym (ap (λ l. slice_index_or l (k % 1024) 0) (get_or_past ps (k / 1024) [] high))

  pub paged-more : (len : ℕ) → IsPaged ps len → length (ps ++ page ∷ []) ≤ 2 ^ 50 → IsPaged (ps ++ page ∷ []) len
  paged-more len h few = record {
    whole = λ p. whole p (cases_lt p (length ps)) (cases_eq p (length ps));
    blank = λ k from. more-same k ∙ h.blank k from;
    there = λ k from to. there k from to (cases_lt (k / 1024) (length ps));
    fits = omega (arith, h.fits, longer);
    few = few;
  }
    where
      whole : (p : ℕ) → (p < length ps) ⊎ (length ps ≤ p) → (p ≡ length ps) ⊎ (p ≢ length ps) → (length (page_in (ps ++ page ∷ []) p) ≡ 0) ⊎ (length (page_in (ps ++ page ∷ []) p) ≡ 1024)
      whole p (inl low) e = subst (λ l. (length l ≡ 0) ⊎ (length l ≡ 1024)) (sym (get_or_append_left ps (page ∷ []) [] p low)) (h.whole p)
      whole p (inr high) (inl end) = inr (ap length (at-end p end) ∙ length-replicate {A = ℕ} 1024 0)
      whole p (inr high) (inr past) = inl (ap length (get_or_past (ps ++ page ∷ []) p [] (omega (arith, longer, high, past))))

      there : (k : ℕ) → len ≤ k → k < 1024 * length (ps ++ page ∷ []) → ((k / 1024) < length ps) ⊎ (length ps ≤ (k / 1024)) → IsThere (ps ++ page ∷ []) k
      there k from to (inl low) = subst (λ l. k % 1024 < length l) (sym (get_or_append_left ps (page ∷ []) [] (k / 1024) low)) (h.there k from (omega (arith, low)))
      there k from to (inr high) =
          let is : length (page_in (ps ++ page ∷ []) (k / 1024)) ≡ 1024 = ap length (at-end (k / 1024) (omega (arith, high, to, longer))) ∙ length-replicate {A = ℕ} 1024 0 in
          omega (arith, is)

-- where a test said no, it is not so
pub is-not : (P : Type 0) → (IsTrue false ↔ P) → P → ⊥
is-not P both there = let e : false ≡ true = both.1 there in cc

-- a number may be written in the place of one that is not 0, whose page is there
pub may-replace : (ps : List (List ℕ)) (k v shown : ℕ) → (v ≡ 0) ⊎ (shown ≢ 0) → shown ≡ number_at ps k → (v ≡ 0) ⊎ IsThere ps k
may-replace ps k v shown (inl none) is = inl none
may-replace ps k v shown (inr some) is = by (cases_lt (k % 1024) (length (page_in ps (k / 1024))))
  where
    by : (k % 1024 < length (page_in ps (k / 1024))) ⊎ (length (page_in ps (k / 1024)) ≤ k % 1024) → (v ≡ 0) ⊎ IsThere ps k
    by (inl there) = inr there
    by (inr past) = absurd (some (is ∙ get_or_past (page_in ps (k / 1024)) (k % 1024) 0 past))
