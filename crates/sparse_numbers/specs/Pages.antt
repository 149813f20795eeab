-- PROOF: numbers in pages of 1,024 each. The numbers of a page that is not there are 0
use Rattle.std.specs.Prelude.{◌≡◌, ◌≢◌, ◌⊎◌, ℕ, zero, suc, ◌*◌, ◌/◌, ◌%◌, ◌^◌, ◌<◌, ◌≤◌, List, [], ◌∷◌, ◌++◌, length, slice_index_or}

abbrev pub page_in : List (List ℕ) → ℕ → List ℕ
page_in pages p = slice_index_or pages p []

abbrev pub number_at : List (List ℕ) → ℕ → ℕ
number_at pages k = slice_index_or (page_in pages (k / 1024)) (k % 1024) 0

-- so many first numbers
abbrev pub first_numbers : (ℕ → ℕ) → ℕ → List ℕ
first_numbers at zero = []
first_numbers at (suc n) = first_numbers at n ++ at n ∷ []

-- the page of this number is there
abbrev pub IsThere : List (List ℕ) → ℕ → Type 0
IsThere pages k = k % 1024 < length (page_in pages (k / 1024))

abbrev pub SameNumbers : List (List ℕ) → List (List ℕ) → Type 0
SameNumbers ps qs = (k : ℕ) → number_at qs k ≡ number_at ps k

-- this number was written, and no page came or went
pub record IsWritten (ps qs : List (List ℕ)) (index number : ℕ) : Type 0 where
  pub here : number_at qs index ≡ number
  pub others : (k : ℕ) → k ≢ index → number_at qs k ≡ number_at ps k
  pub shape : (p : ℕ) → length (page_in qs p) ≡ length (page_in ps p)
  pub count : length qs ≡ length ps

-- each page is there as a whole or not at all
abbrev pub AreWhole : List (List ℕ) → Type 0
AreWhole pages = (p : ℕ) → (length (page_in pages p) ≡ 0) ⊎ (length (page_in pages p) ≡ 1024)

-- pages with so many numbers: they are whole, and those for more numbers are there and all 0
pub record IsPaged (pages : List (List ℕ)) (len : ℕ) : Type 0 where
  pub whole : AreWhole pages
  pub blank : (k : ℕ) → len ≤ k → number_at pages k ≡ 0
  pub there : (k : ℕ) → len ≤ k → k < 1024 * length pages → IsThere pages k
  pub fits : len ≤ 1024 * length pages
  pub few : length pages ≤ 2 ^ 50
