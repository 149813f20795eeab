-- whether a run is there, and open
use Rattle.std.proofs.Common.{◌≡◌, Bool, true, false, ◌&&◌, refl, ap, ◌∙◌, []}
use Rattle.service_model.specs.RunState.{RunState, beginning, is_open, is_open_status, is_there, state_of}

and-first : (a b : Bool) → (a && b) ≡ true → a ≡ true
and-first true b h = refl
and-first false b h = h

-- an open run is there
pub open-there : (s : RunState) → is_open s ≡ true → is_there s ≡ true
open-there s h = and-first (is_there s) (is_open_status s.status) h

-- a run that is there is open by its status
pub there-open : (s : RunState) → is_there s ≡ true → is_open s ≡ is_open_status s.status
there-open s there = ap (λ b. b && is_open_status s.status) there

pub open-status : (s : RunState) → is_open s ≡ true → is_open_status s.status ≡ true
open-status s h = ap (λ b. b && is_open_status s.status) (true-is (is_there s) (open-there s h)) ∙ h
  where
    true-is : (b : Bool) → b ≡ true → true ≡ b
    true-is true h = refl
    true-is false h = absurd (cc)

-- a run whose status is that of a closed one is not open
pub closed-status : (s : RunState) → is_open_status s.status ≡ false → is_open s ≡ false
closed-status s h = ap (λ b. is_there s && b) h ∙ and-false (is_there s)
  where
    and-false : (b : Bool) → (b && false) ≡ false
    and-false true = refl
    and-false false = refl

-- no run is there where there is no journal, and none is open
pub none-there : (is_there (state_of []) ≡ false) × (is_open (state_of []) ≡ false)
unfolding beginning
none-there = (refl, refl)
