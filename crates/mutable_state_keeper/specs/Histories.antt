-- PROOF: a run's history as it is read
use Rattle.buffered.specs.Buffers.{Buffer}
use Rattle.mutable_state_keeper.specs.declared.kept_history.KeptHistory.{KeptHistory}
use Rattle.mutable_state_keeper.specs.declared.kept_history.KeptHistory.TheVariants.{Lent, Made}

-- the events, and those that are buffered
abbrev pub lists_in : KeptHistory → Buffer
lists_in (Lent history) = history.now.lists
lists_in (Made history) = history.value.lists
