-- PROOF: the places of a shard's runs, and the view of one that no run is at
use Rattle.std.specs.Prelude.{◌≡◌, ℕ, ◌<◌, List, length, slice_index_or}
use Rattle.service_model.specs.RunState.{no_run}
use Rattle.mutable_state.specs.Rooms.{ForAny}
use Rattle.mutable_state.specs.RunView.{RunView}

abbrev pub empty_place : RunView
empty_place = record { state = no_run; room = ForAny 0 }

-- what is at each place, and for how many more there is room
pub record RunsView : Type 0 where
  pub items : List RunView
  pub room : ℕ

-- what is at a place with this slot
abbrev pub in_slot : List RunView → ℕ → RunView
in_slot kept slot = slice_index_or kept slot empty_place

-- no run is in the first slot, and each other one is one place's
pub record AreSlots (slots places : List ℕ) (kept : List RunView) : Type 0 where
  pub first : in_slot kept 0 ≡ empty_place
  pub some : 0 < length kept
  pub count : length places ≡ length kept
  pub there : (k : ℕ) → k < length slots → slice_index_or slots k 0 < length kept
  pub own : (k : ℕ) → k < length slots → 0 < slice_index_or slots k 0
      → slice_index_or places (slice_index_or slots k 0) 0 ≡ k
  pub back : (s : ℕ) → 0 < s → s < length kept
      → (slice_index_or places s 0 < length slots) × (slice_index_or slots (slice_index_or places s 0) 0 ≡ s)
