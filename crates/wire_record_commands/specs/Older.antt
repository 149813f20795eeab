-- MEANING: commands as an earlier time wrote them: a whole factor stands in the place of each policy's coefficient
use Rattle.std.specs.Prelude.{◌≡◌, ℕ, zero, ◌==◌, ◌^◌, nat_lt, Bool, true, ◌&&◌, List, [], ◌∷◌, codes, map, Option, Some, None, option_and_then, ⊤}
use Rattle.serde_json.specs.Data.{Data, array}
use Rattle.serde_json.specs.Find.{get, as_number, as_u64}
use Rattle.serde_json.specs.View.{items_of}
use Rattle.wf_command.specs.declared.command.Command.{Command}
use Rattle.wf_command.specs.declared.command.Command.TheVariants as command
use Rattle.wire_requests.specs.RetryPolicies.{counts_as}
use Rattle.wire_record_commands.specs.Limits.{IsNumber}
use Rattle.wire_record_commands.specs.Trees.{command_tree}

-- the factor counts as the coefficient of the command's policy; a command without one has no factor to count
abbrev pub CountsFor : Command → ℕ → Type 0
CountsFor (command.ScheduleActivityTask c) f = IsNumber f × (counts_as f ≡ c.retry.coefficient)
CountsFor _ f = ⊤

-- the command's JSON value, spelled with a factor
abbrev pub IsOlder : Command → Data → Type 0
IsOlder c d = (f : ℕ) × (CountsFor c f × (d ≡ command_tree (Some f) c))

-- those of commands, one for one
abbrev pub AreOlder : List Command → List Data → Type 0
AreOlder [] [] = ⊤
AreOlder [] (d ∷ ds) = ⊥
AreOlder (c ∷ cs) [] = ⊥
AreOlder (c ∷ cs) (d ∷ ds) = IsOlder c d × AreOlder cs ds

-- the same as a test
abbrev pub counts_for : Command → ℕ → Bool
counts_for (command.ScheduleActivityTask c) f = nat_lt f (2 ^ 64) && counts_as f == c.retry.coefficient
counts_for _ f = true

abbrev pub number_or_zero : Option ℕ → ℕ
number_or_zero None = 0
number_or_zero (Some n) = n

abbrev pub factor_under : Option Data → ℕ
factor_under None = 0
factor_under (Some d) = number_or_zero (option_and_then as_u64 (option_and_then as_number (get (codes "factor") d)))

-- the factor that a command's JSON value has, else 0
unfoldable pub factor_in : Data → ℕ
factor_in d = factor_under (get (codes "retry") d)

abbrev pub first_or_zero : List ℕ → ℕ
first_or_zero [] = 0
first_or_zero (f ∷ fs) = f

abbrev pub behind : List ℕ → List ℕ
behind [] = []
behind (f ∷ fs) = fs

-- each factor counts for the command at its place
abbrev pub all_count : List ℕ → List Command → Bool
all_count fs [] = true
all_count fs (c ∷ cs) = counts_for c (first_or_zero fs) && all_count (behind fs) cs

-- the commands' values, spelled with these factors
abbrev pub older_trees : List ℕ → List Command → List Data
older_trees fs [] = []
older_trees fs (c ∷ cs) = command_tree (Some (first_or_zero fs)) c ∷ older_trees (behind fs) cs

abbrev pub older_list : List ℕ → List Command → Data
older_list fs cs = array (items_of (older_trees fs cs))
