-- pages after some that are left out
use Rattle.std.proofs.Common.{◌≡◌, ◌≢◌, ℕ, ◌+◌, ◌*◌, ◌/◌, ◌%◌, ◌-◌, ◌<◌, ◌≤◌, ◌⊎◌, inl, inr, List, length, sym, ap, arith, subst, ◌∙◌}
use Rattle.std.specs.Prelude.{replicate, slice_index_or, slice_set, take, drop, [], ◌++◌}
use Rattle.std.proofs.lemmas.Bool.{cases_eq, cases_lt}
use Rattle.std.proofs.lemmas.List.{append_assoc, get_or-append_right, get_or-replicate, get_or-set_other, get_or-set_same, get_or_append_left, get_or_default, get_or_past, length-append, length-replicate, length-drop, length-set, replicate-append-replicate, set-append_right, take-append-drop}
use Rattle.std.proofs.Math.Seq.{take-append_seam}
use Rattle.sparse_numbers.specs.Pages.{IsPaged, IsThere, IsWritten, number_at, page_in}
use Rattle.sparse_numbers.proofs.PageLemmas.{same-set}

-- a page that is there is one of the pages
pub inside : (ps : List (List ℕ)) (i : ℕ) → IsThere ps i → (i / 1024) < length ps
inside ps i there = by (cases_lt (i / 1024) (length ps))
  where
    by : ((i / 1024) < length ps) ⊎ (length ps ≤ (i / 1024)) → (i / 1024) < length ps
    by (inl low) = low
    by (inr past) = absurd (omega (arith, there, ap length (get_or_past ps (i / 1024) [] past)))

-- a number was written on its page
pub written : (ps : List (List ℕ)) (i v : ℕ) (page : List ℕ) → IsThere ps i → page ≡ slice_set (page_in ps (i / 1024)) (i % 1024) v → IsWritten ps (slice_set ps (i / 1024) page) i v
written ps i v page there is = record {
  here = ap (λ l. slice_index_or l (i % 1024) 0) (get_or-set_same ps (i / 1024) page [] low ∙ is) ∙ get_or-set_same (page_in ps (i / 1024)) (i % 1024) v 0 there;
  others = λ k other. others k other (cases_eq (k / 1024) (i / 1024));
  shape = λ p. shape p (cases_eq p (i / 1024));
  count = length-set ps (i / 1024) page;
}
  where
    low : (i / 1024) < length ps
    low = inside ps i there

    others : (k : ℕ) → k ≢ i → ((k / 1024) ≡ (i / 1024)) ⊎ ((k / 1024) ≢ (i / 1024)) → number_at (slice_set ps (i / 1024) page) k ≡ number_at ps k
    others k other (inl here) =
        ap (λ q. slice_index_or (page_in (slice_set ps (i / 1024) page) q) (k % 1024) 0) here
        ∙ ap (λ l. slice_index_or l (k % 1024) 0) (get_or-set_same ps (i / 1024) page [] low ∙ is)
        ∙ get_or-set_other (page_in ps (i / 1024)) (i % 1024) (k % 1024) v 0 (λ same. other (omega (arith, here, same)))
        ∙ ap (λ q. slice_index_or (page_in ps q) (k % 1024) 0) (sym here)
    others k other (inr there) = ap (λ l. slice_index_or l (k % 1024) 0) (get_or-set_other ps (i / 1024) (k / 1024) page [] there)

    shape : (p : ℕ) → (p ≡ (i / 1024)) ⊎ (p ≢ (i / 1024)) → length (page_in (slice_set ps (i / 1024) page) p) ≡ length (page_in ps p)
    shape p (inl here) =
        ap (λ q. length (page_in (slice_set ps (i / 1024) page) q)) here ∙ ap length (get_or-set_same ps (i / 1024) page [] low ∙ is)
        ∙ length-set (page_in ps (i / 1024)) (i % 1024) v ∙ ap (λ q. length (page_in ps q)) (sym here)
    shape p (inr other) = ap length (get_or-set_other ps (i / 1024) p page [] other)

module _ (b : ℕ) (ks ps : List (List ℕ)) (is : replicate b [] ++ ks ≡ ps) where
  pub kept : (p : ℕ) → b ≤ p → page_in ps p ≡ slice_index_or ks (p - b) []
  kept p behind = ap (λ l. slice_index_or l p []) (sym is) ∙ get_or-append_right (replicate b []) ks b p [] (length-replicate b []) behind

  -- what is read of those that are kept is the page
  pub read : (p : ℕ) (page : List ℕ) → b ≤ p → p < length ps → page ≡ slice_index_or ks (p - b) page → page ≡ page_in ps p
  read p page after low is_read =
      let all : length ps ≡ b + length ks = ap length (sym is) ∙ length-append (replicate b []) ks ∙ ap (λ n. n + length ks) (length-replicate b []) in
      is_read ∙ get_or_default ks (p - b) page [] (omega (arith, all, low, after)) ∙ sym (kept p after)

  pub left-out : (p : ℕ) → p < b → page_in ps p ≡ []
  left-out p low =
      ap (λ l. slice_index_or l p []) (sym is)
      ∙ get_or_append_left (replicate b []) ks [] p (let n : length {A = List ℕ} (replicate b []) ≡ b = length-replicate b [] in omega (arith, n, low)) ∙ get_or-replicate b p [] [] low

  pub behind : (i : ℕ) → IsThere ps i → b ≤ (i / 1024)
  behind i there = by (cases_lt (i / 1024) b)
    where
      by : ((i / 1024) < b) ⊎ (b ≤ (i / 1024)) → b ≤ (i / 1024)
      by (inl low) = absurd (omega (arith, there, ap length (left-out (i / 1024) low)))
      by (inr high) = high

  pub set : (p : ℕ) (page : List ℕ) → b ≤ p → replicate b [] ++ slice_set ks (p - b) page ≡ slice_set ps p page
  set p page after = sym (set-append_right (replicate b []) ks b p page (length-replicate b []) after) ∙ ap (λ l. slice_set l p page) is

  -- fewer are left out
  pub fewer : (p : ℕ) → p ≤ b → replicate p [] ++ (replicate (b - p) [] ++ ks) ≡ ps
  fewer p low =
      sym (append_assoc (replicate p []) (replicate (b - p) []) ks)
      ∙ ap (λ l. l ++ ks) (replicate-append-replicate p (b - p) [] ∙ ap (λ n. replicate n []) (let n : p + (b - p) ≡ b = omega (arith, low) in n)) ∙ is

  -- more are left out, of which none is there
  pub more : (n : ℕ) → take n ks ≡ replicate n [] → replicate (b + n) [] ++ drop n ks ≡ ps
  more n none =
      ap (λ l. l ++ drop n ks) (sym (replicate-append-replicate b n []))
      ∙ append_assoc (replicate b []) (replicate n []) (drop n ks)
      ∙ ap (λ l. replicate b [] ++ (l ++ drop n ks)) (sym none)
      ∙ ap (λ l. replicate b [] ++ l) (take-append-drop n ks) ∙ is

-- a page was given back
pub paged-given : (ps : List (List ℕ)) (p len : ℕ) → p < length ps → 1024 * (p + 1) ≤ len → ((k : ℕ) → slice_index_or (page_in ps p) k 0 ≡ 0) → IsPaged ps len → IsPaged (slice_set ps p []) len
paged-given ps p len low inside zero h = record {
  whole = λ q. whole q (cases_eq q p);
  blank = λ k from. same-set ps p [] low (λ j. sym (zero j)) k ∙ h.blank k from;
  there = λ k from to. subst (λ l. k % 1024 < length l) (sym (get_or-set_other ps p (k / 1024) [] [] (λ same. absurd (omega (arith, same, from, inside))))) (h.there k from (omega (arith, to, length-set ps p [])));
  fits = omega (arith, h.fits, length-set ps p []);
  few = omega (arith, h.few, length-set ps p []);
}
  where
    whole : (q : ℕ) → (q ≡ p) ⊎ (q ≢ p) → (length (page_in (slice_set ps p []) q) ≡ 0) ⊎ (length (page_in (slice_set ps p []) q) ≡ 1024)
    whole q (inl here) = inl (ap (λ r. length (page_in (slice_set ps p []) r)) here ∙ ap length (get_or-set_same ps p [] [] low))
    whole q (inr other) = subst (λ l. (length l ≡ 0) ⊎ (length l ≡ 1024)) (sym (get_or-set_other ps p q [] [] other)) (h.whole q)

-- what was first went to the end, and was cut off there
pub dropped : (ks rotated : List (List ℕ)) (n m : ℕ) → n ≤ length ks → m ≡ length ks → rotated ≡ drop n ks ++ take n ks → take (m - n) rotated ≡ drop n ks
dropped ks rotated n m low all is =
    ap (λ i. take i rotated) (let as-many = length-drop n ks in let e : m - n ≡ length (drop n ks) = omega (arith, as-many, all) in e)
    ∙ ap (take (length (drop n ks))) is ∙ take-append_seam (drop n ks) (take n ks)
