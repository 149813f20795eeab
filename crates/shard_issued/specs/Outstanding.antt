-- PROOF: what is kept of each run at its place: its first deadline, and how many events it shows
use Rattle.std.specs.Prelude.{◌≡◌, ◌≢◌, ℕ, ◌+◌, ◌<◌, List, length, Option, None, Some, IfSome, option_map, slice_get, slice_index_or}
use Rattle.service_model.specs.RunState.{RunState}
use Rattle.timeouts.specs.Firsts.{first_due}
use Rattle.timeouts.specs.Slots.{run_due}
use Rattle.timeouts.specs.declared.due.Due.{Due}
use Rattle.service_model_types.specs.declared.transfer.Sent.{Sent}
use Rattle.shard_issued.specs.Sending.{TransfersView}
use Rattle.shard_issued.specs.declared.changed.Changed.{Changed}
use Rattle.shard_issued.specs.declared.transfers.Unsent.{Unsent}

-- no run changed
abbrev pub unchanged : Changed
unchanged = record { grown = None; made = None }

-- all runs that changed were looked up
pub record AreCaughtUp (c : Changed) : Type 0 where
  pub grown : c.grown ≡ None
  pub made : c.made ≡ None

-- what was not looked up since the last step: the run to which it added, the run that it made, the events whose
-- transfers were not issued, and the answer to a transfer that was not issued
pub record Outstanding : Type 0 where
  pub grown : Option ℕ
  pub made : Option ℕ
  pub unsent : Option Unsent
  pub answer : Option Sent

-- what was not looked up, of the runs that changed and of the transfers
abbrev pub outstanding : Changed → TransfersView → Outstanding
outstanding c t = record { grown = c.grown; made = c.made; unsent = t.unsent; answer = t.answer }

-- all was looked up
pub record IsCaughtUp (u : Outstanding) : Type 0 where
  pub grown : u.grown ≡ None
  pub made : u.made ≡ None
  pub unsent : u.unsent ≡ None
  pub answer : u.answer ≡ None

-- something of each run is kept at its place, but for the runs that changed
pub record KeepsEach {A B : Type 0} (says : A → B) (fact : ℕ → RunState → B) (none : A) (slots : List A) (changed : Changed)
    (runs : List RunState) : Type 0 where
  pub count : length slots ≡ length runs
  pub grown : IfSome changed.grown (λ n. n < length runs)
  pub made : IfSome changed.made (λ n. n < length runs)
  pub each : (n : ℕ) (s : RunState) → slice_get runs n ≡ Some s → changed.grown ≢ Some n → changed.made ≢ Some n
      → says (slice_index_or slots n none) ≡ fact n s

-- the first deadline of each run is, with a retention
abbrev pub HasFirsts : ℕ → List (Option Due) → Changed → List RunState → Type 0
HasFirsts retention slots changed runs = KeepsEach (option_map run_due) (λ n s. first_due retention (n + 1) s) None slots changed runs

-- how many events each run shows is
abbrev pub HasShown : List ℕ → Changed → List RunState → Type 0
HasShown counts changed runs = KeepsEach (λ n. n) (λ n (s : RunState). length s.shown) 0 counts changed runs
