-- the slots of places, as one is written, one comes and one goes
use Rattle.std.proofs.Common.{◌≡◌, ◌≢◌, ℕ, zero, suc, ◌+◌, ◌-◌, ◌<◌, ◌⊎◌, inl, inr, List, [], ◌∷◌, ◌++◌, length, slice_index_or, slice_set, map, refl, sym, ap, subst, arith, ◌∙◌}
use Rattle.std.proofs.Math.ListN.{get_or-map}
use Rattle.std.proofs.lemmas.Bool.{cases_eq}
use Rattle.std.proofs.lemmas.List.{ext_get_or, get_or-set_same, get_or-set_other, get_or_append_left, get_or_past, get_or_push, length-set, length-map, set-get_or}
use Rattle.mutable_state.specs.RunView.{RunView}
use Rattle.shard_store.specs.Places.{AreSlots, empty_place, in_slot}

-- the slot of a place
abbrev pub slot_of : List ℕ → ℕ → ℕ
slot_of slots k = slice_index_or slots k 0

-- what is at a place is what is in its slot
pub item-at : (kept : List RunView) (slots : List ℕ) (k : ℕ) → in_slot kept 0 ≡ empty_place → slice_index_or (map (in_slot kept) slots) k empty_place ≡ in_slot kept (slot_of slots k)
item-at kept slots k first = ap (λ d. slice_index_or (map (in_slot kept) slots) k d) (sym first) ∙ get_or-map (in_slot kept) slots k 0

-- a run that is there is at one of the places
pub there-low : (items : List RunView) (k : ℕ) → slice_index_or items k empty_place ≢ empty_place → k < length items
there-low [] k there = absurd (there (get_or_past [] k empty_place (omega arith)))
there-low (x ∷ items) zero there = omega arith
there-low (x ∷ items) (suc k) there = omega (arith, there-low items k there)

-- and not in the first slot
pub there-slot : (kept : List RunView) (slots : List ℕ) (k : ℕ) → in_slot kept 0 ≡ empty_place → slice_index_or (map (in_slot kept) slots) k empty_place ≢ empty_place → 0 < slot_of slots k
there-slot kept slots k first there = by (slot_of slots k) refl
  where
    by : (s : ℕ) → slot_of slots k ≡ s → 0 < s
    by zero is = absurd (there (item-at kept slots k first ∙ ap (in_slot kept) is ∙ first))
    by (suc s) is = omega arith

-- no other place has the slot of one that has a run
pub only-slot : (slots places : List ℕ) (kept : List RunView) (j k : ℕ) → AreSlots slots places kept → j < length slots → k < length slots → 0 < slot_of slots k → slot_of slots j ≡ slot_of slots k → j ≡ k
only-slot slots places kept j k h low there some same =
    sym (h.own j low (subst (λ s. 0 < s) (sym same) some)) ∙ ap (λ s. slice_index_or places s 0) same ∙ h.own k there some

-- a place is written
module _ (slots places : List ℕ) (kept : List RunView) (k : ℕ) (w : RunView) (h : AreSlots slots places kept) (low : k < length slots) (some : 0 < slot_of slots k) where
  written-first : in_slot (slice_set kept (slot_of slots k) w) 0 ≡ empty_place
  written-first = get_or-set_other kept (slot_of slots k) 0 w empty_place (λ same. absurd (omega (arith, same, some))) ∙ h.first

  pub written : AreSlots slots places (slice_set kept (slot_of slots k) w)
  written = record {
    first = written-first;
    some = omega (arith, h.some, length-set kept (slot_of slots k) w);
    count = h.count ∙ sym (length-set kept (slot_of slots k) w);
    there = λ j inside. omega (arith, h.there j inside, length-set kept (slot_of slots k) w);
    own = h.own;
    back = λ s from to. h.back s from (omega (arith, to, length-set kept (slot_of slots k) w));
  }

  pub items-written : map (in_slot (slice_set kept (slot_of slots k) w)) slots ≡ slice_set (map (in_slot kept) slots) k w
  items-written = ext_get_or empty_place _ _ lengths (λ j inside. by j (omega (arith, inside, length-map slots (in_slot (slice_set kept (slot_of slots k) w)))) (cases_eq j k))
    where
      lengths : length (map (in_slot (slice_set kept (slot_of slots k) w)) slots) ≡ length (slice_set (map (in_slot kept) slots) k w)
      lengths = length-map slots (in_slot (slice_set kept (slot_of slots k) w)) ∙ sym (length-map slots (in_slot kept)) ∙ sym (length-set (map (in_slot kept) slots) k w)

      by : (j : ℕ) → j < length slots → (j ≡ k) ⊎ (j ≢ k) → slice_index_or (map (in_slot (slice_set kept (slot_of slots k) w)) slots) j empty_place ≡ slice_index_or (slice_set (map (in_slot kept) slots) k w) j empty_place
      by j inside (inl same) =
          item-at (slice_set kept (slot_of slots k) w) slots j written-first ∙ ap (λ i. in_slot (slice_set kept (slot_of slots k) w) (slot_of slots i)) same
          ∙ get_or-set_same kept (slot_of slots k) w empty_place (h.there k low)
          ∙ sym (ap (λ i. slice_index_or (slice_set (map (in_slot kept) slots) k w) i empty_place) same ∙ get_or-set_same (map (in_slot kept) slots) k w empty_place (omega (arith, low, length-map slots (in_slot kept))))
      by j inside (inr other) =
          item-at (slice_set kept (slot_of slots k) w) slots j written-first
          ∙ get_or-set_other kept (slot_of slots k) (slot_of slots j) w empty_place (λ same. other (only-slot slots places kept j k h inside low some same))
          ∙ sym (get_or-set_other (map (in_slot kept) slots) k j w empty_place other ∙ item-at kept slots j h.first)

-- one more place
pub items-pushed : (kept : List RunView) (slots : List ℕ) (n : ℕ) (w : RunView) → n ≡ length kept → ((k : ℕ) → k < length slots → slot_of slots k < length kept) → map (in_slot (kept ++ w ∷ [])) (slots ++ n ∷ []) ≡ map (in_slot kept) slots ++ w ∷ []
items-pushed kept [] n w new there = ap (λ v. v ∷ []) (get_or_push kept w empty_place n (sym new))
items-pushed kept (s ∷ slots) n w new there =
    ap (λ v. v ∷ map (in_slot (kept ++ w ∷ [])) (slots ++ n ∷ [])) (get_or_append_left kept (w ∷ []) empty_place s (there 0 (omega arith)))
    ∙ ap (λ l. in_slot kept s ∷ l) (items-pushed kept slots n w new (λ k low. there (suc k) (omega (arith, low))))

-- a place without a run is cleared
pub items-cleared : (kept : List RunView) (slots : List ℕ) (k : ℕ) → in_slot kept 0 ≡ empty_place → slot_of slots k ≡ 0 → map (in_slot kept) slots ≡ slice_set (map (in_slot kept) slots) k empty_place
items-cleared kept slots k first none =
    let empty = item-at kept slots k first ∙ ap (in_slot kept) none ∙ first in
    sym (set-get_or (map (in_slot kept) slots) k empty_place) ∙ ap (slice_set (map (in_slot kept) slots) k) empty

-- the last element of a list went to a place
pub record IsMoved {A : Type 0} (xs ys : List A) (at : ℕ) : Type 0 where
  pub fewer : length ys + 1 ≡ length xs
  pub here : (d : A) → at + 1 < length xs → slice_index_or ys at d ≡ slice_index_or xs (length xs - 1) d
  pub others : (k : ℕ) (d : A) → k ≢ at → k + 1 < length xs → slice_index_or ys k d ≡ slice_index_or xs k d

-- a place's slot is free, and what was in the last slot lies there
pub record IsFreed (slots now : List ℕ) (k last : ℕ) : Type 0 where
  pub count : length now ≡ length slots
  pub gone : slot_of now k ≡ 0
  pub moved : (j : ℕ) → j < length slots → j ≢ k → slot_of slots j ≡ last → slot_of now j ≡ slot_of slots k
  pub others : (j : ℕ) → j < length slots → j ≢ k → slot_of slots j ≢ last → slot_of now j ≡ slot_of slots j

module _ (slots places : List ℕ) (kept : List RunView) (k last : ℕ) (h : AreSlots slots places kept) (low : k < length slots) (some : 0 < slot_of slots k) (end : last + 1 ≡ length kept) where
  some-last : 0 < last
  some-last = by (cases_eq last 0)
    where
      by : (last ≡ 0) ⊎ (last ≢ 0) → 0 < last
      by (inl none) = absurd (omega (arith, none, end, some, h.there k low))
      by (inr some) = omega (arith, some)

  -- the place of the last slot
  last-place : (slice_index_or places last 0 < length slots) × (slot_of slots (slice_index_or places last 0) ≡ last)
  last-place = h.back last some-last (omega (arith, end))

  module _ (m : ℕ) (named : m ≡ slice_index_or places last 0) (not : slot_of slots k ≢ last) where
    apart : m ≡ k → ⊥
    apart same = not (ap (slot_of slots) (sym same ∙ named) ∙ last-place.1)

    pub moved-within : m < length (slice_set slots k 0)
    moved-within = omega (arith, last-place.0, ap (λ i. i) named, length-set slots k 0)

  -- it was the last slot
  pub freed-last : slot_of slots k ≡ last → IsFreed slots (slice_set slots k 0) k last
  freed-last is = record {
    count = length-set slots k 0;
    gone = get_or-set_same slots k 0 0 low;
    moved = λ j inside other same. absurd (other (only-slot slots places kept j k h inside low some (same ∙ sym is)));
    others = λ j inside other not. get_or-set_other slots k j 0 0 other;
  }

  -- it was another one, and this place has the last
  pub freed-other : (m : ℕ) → m ≡ slice_index_or places last 0 → slot_of slots k ≢ last → IsFreed slots (slice_set (slice_set slots k 0) m (slot_of slots k)) k last
  freed-other m named not = record {
    count = length-set (slice_set slots k 0) m (slot_of slots k) ∙ length-set slots k 0;
    gone = get_or-set_other (slice_set slots k 0) m k (slot_of slots k) 0 (λ same. apart m named not (sym same)) ∙ get_or-set_same slots k 0 0 low;
    moved = λ j inside other same. ap (λ i. slot_of (slice_set (slice_set slots k 0) m (slot_of slots k)) i) (owner j inside same) ∙ get_or-set_same (slice_set slots k 0) m (slot_of slots k) 0 (moved-within m named not);
    others = λ j inside other away. get_or-set_other (slice_set slots k 0) m j (slot_of slots k) 0 (λ same. away (ap (slot_of slots) same ∙ ap (slot_of slots) named ∙ last-place.1)) ∙ get_or-set_other slots k j 0 0 other;
  }
    where
      owner : (j : ℕ) → j < length slots → slot_of slots j ≡ last → j ≡ m
      owner j inside same = sym (h.own j inside (subst (λ s. 0 < s) (sym same) some-last)) ∙ ap (λ s. slice_index_or places s 0) same ∙ sym named

  -- the slots after it
  module _ (now : List ℕ) (freed : IsFreed slots now k last) (fewer : List RunView) (moved : IsMoved kept fewer (slot_of slots k)) (left : List ℕ) (moved_places : IsMoved places left (slot_of slots k)) where
    end_is : length kept - 1 ≡ last
    end_is = omega (arith, end)

    end_places : length places - 1 ≡ last
    end_places = omega (arith, end, h.count)

    -- the slot of another place, which isn't the last one
    other-slot : (j : ℕ) → j < length slots → j ≢ k → slot_of slots j ≢ slot_of slots k
    other-slot j inside other same = other (only-slot slots places kept j k h inside low some same)

    below : (s : ℕ) → s < length kept → s ≢ last → s < last
    below s inside not = omega (arith, inside, not, end)

    inner : (j : ℕ) → j < length slots → j ≢ k → slot_of slots j ≡ last → slot_of slots k < last
    inner j inside other same = below (slot_of slots k) (h.there k low) (λ is. other-slot j inside other (same ∙ sym is))

    first : in_slot fewer 0 ≡ empty_place
    first = moved.others 0 empty_place (λ same. absurd (omega (arith, same, some))) (omega (arith, some, h.there k low)) ∙ h.first

    there : (j : ℕ) → j < length slots → (j ≡ k) ⊎ (j ≢ k) → (slot_of slots j ≡ last) ⊎ (slot_of slots j ≢ last) → slot_of now j < length fewer
    there j inside (inl same) b = omega (arith, ap (slot_of now) same, freed.gone, moved.fewer, some, h.there k low)
    there j inside (inr other) (inl at_end) = omega (arith, freed.moved j inside other at_end, inner j inside other at_end, moved.fewer, end)
    there j inside (inr other) (inr away) = omega (arith, freed.others j inside other away, below (slot_of slots j) (h.there j inside) away, moved.fewer, end)

    own : (j : ℕ) → j < length slots → 0 < slot_of now j → (j ≡ k) ⊎ (j ≢ k) → (slot_of slots j ≡ last) ⊎ (slot_of slots j ≢ last) → slice_index_or left (slot_of now j) 0 ≡ j
    own j inside positive (inl same) b = absurd (omega (arith, ap (slot_of now) same, freed.gone, positive))
    own j inside positive (inr other) (inl at_end) =
        ap (λ s. slice_index_or left s 0) (freed.moved j inside other at_end)
        ∙ moved_places.here 0 (omega (arith, inner j inside other at_end, end, h.count))
        ∙ ap (λ s. slice_index_or places s 0) (end_places ∙ sym at_end)
        ∙ h.own j inside (omega (arith, at_end, inner j inside other at_end))
    own j inside positive (inr other) (inr away) =
        let same = freed.others j inside other away in
        ap (λ s. slice_index_or left s 0) same
        ∙ moved_places.others (slot_of slots j) 0 (other-slot j inside other) (omega (arith, below (slot_of slots j) (h.there j inside) away, end, h.count))
        ∙ h.own j inside (subst (λ s. 0 < s) same positive)

    back : (s : ℕ) → 0 < s → s < length fewer → (s ≡ slot_of slots k) ⊎ (s ≢ slot_of slots k) → (slice_index_or left s 0 < length now) × (slot_of now (slice_index_or left s 0) ≡ s)
    back s positive inside (inl same) =
        let short : slot_of slots k < last = omega (arith, same, inside, moved.fewer, end) in
        let old = h.back last (omega (arith, short)) (omega (arith, end)) in
        let is : slice_index_or left s 0 ≡ slice_index_or places last 0 = ap (λ x. slice_index_or left x 0) same ∙ moved_places.here 0 (omega (arith, short, end, h.count)) ∙ ap (λ x. slice_index_or places x 0) end_places in
        let other : slice_index_or places last 0 ≢ k = (λ (e : slice_index_or places last 0 ≡ k). omega (arith, short, ap (slot_of slots) e, old.1)) in (
          omega (arith, is, old.0, freed.count),
          ap (slot_of now) is ∙ freed.moved (slice_index_or places last 0) old.0 other old.1 ∙ sym same,
        )
    back s positive inside (inr not) =
        let old = h.back s positive (omega (arith, inside, moved.fewer)) in
        let is : slice_index_or left s 0 ≡ slice_index_or places s 0 = moved_places.others s 0 not (omega (arith, inside, moved.fewer, h.count)) in
        let other : slice_index_or places s 0 ≢ k = (λ (e : slice_index_or places s 0 ≡ k). not (sym old.1 ∙ ap (slot_of slots) e)) in
        let away : slot_of slots (slice_index_or places s 0) ≢ last = (λ (e : slot_of slots (slice_index_or places s 0) ≡ last). omega (arith, e, old.1, inside, moved.fewer, end)) in (
          omega (arith, is, old.0, freed.count),
          ap (slot_of now) is ∙ freed.others (slice_index_or places s 0) old.0 other away ∙ old.1,
        )

    pub slots-freed : AreSlots now left fewer
    slots-freed = record {
      first = first;
      some = omega (arith, moved.fewer, some, h.there k low);
      count = omega (arith, moved.fewer, moved_places.fewer, h.count);
      there = λ j inside. there j (omega (arith, inside, freed.count)) (cases_eq j k) (cases_eq (slot_of slots j) last);
      own = λ j inside positive. own j (omega (arith, inside, freed.count)) positive (cases_eq j k) (cases_eq (slot_of slots j) last);
      back = λ s positive inside. back s positive inside (cases_eq s (slot_of slots k));
    }

    at_other : (j : ℕ) → j < length slots → j ≢ k → (slot_of slots j ≡ last) ⊎ (slot_of slots j ≢ last) → in_slot fewer (slot_of now j) ≡ in_slot kept (slot_of slots j)
    at_other j inside other (inl at_end) =
        ap (in_slot fewer) (freed.moved j inside other at_end) ∙ moved.here empty_place (omega (arith, inner j inside other at_end, end)) ∙ ap (in_slot kept) (end_is ∙ sym at_end)
    at_other j inside other (inr away) =
        ap (in_slot fewer) (freed.others j inside other away)
        ∙ moved.others (slot_of slots j) empty_place (other-slot j inside other) (omega (arith, below (slot_of slots j) (h.there j inside) away, end))

    pub items-freed : map (in_slot fewer) now ≡ slice_set (map (in_slot kept) slots) k empty_place
    items-freed = ext_get_or empty_place _ _ lengths (λ j inside. by j (omega (arith, inside, length-map now (in_slot fewer), freed.count)) (cases_eq j k))
      where
        lengths : length (map (in_slot fewer) now) ≡ length (slice_set (map (in_slot kept) slots) k empty_place)
        lengths = length-map now (in_slot fewer) ∙ freed.count ∙ sym (length-map slots (in_slot kept)) ∙ sym (length-set (map (in_slot kept) slots) k empty_place)

        by : (j : ℕ) → j < length slots → (j ≡ k) ⊎ (j ≢ k) → slice_index_or (map (in_slot fewer) now) j empty_place ≡ slice_index_or (slice_set (map (in_slot kept) slots) k empty_place) j empty_place
        by j inside (inl same) =
            item-at fewer now j first ∙ ap (in_slot fewer) (ap (slot_of now) same ∙ freed.gone) ∙ first
            ∙ sym (ap (λ i. slice_index_or (slice_set (map (in_slot kept) slots) k empty_place) i empty_place) same ∙ get_or-set_same (map (in_slot kept) slots) k empty_place empty_place (omega (arith, low, length-map slots (in_slot kept))))
        by j inside (inr other) =
            item-at fewer now j first ∙ at_other j inside other (cases_eq (slot_of slots j) last)
            ∙ sym (get_or-set_other (map (in_slot kept) slots) k j empty_place empty_place other ∙ item-at kept slots j h.first)
