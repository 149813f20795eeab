-- PROOF: what the places end as, where one of them was lent, and a place, where its run was
use Rattle.std.specs.Prelude.{ℕ, slice_set}
use Rattle.std.specs.Borrow.{Fml, Lends, MutBor, RattleType}
use Rattle.mutable_state.specs.RunView.{RunView}
use Rattle.mutable_state_keeper.specs.declared.keeps_run.KeepsRun.{Ghosts}
use Rattle.mutable_state_keeper.specs.contracts.run.Run as kept
use Rattle.shard_store.specs.Places.{RunsView}
use Rattle.shard_store.specs.contracts.place.Place as place
use Rattle.shard_store.specs.contracts.runs.Runs as runs

-- the places with this at one of them
abbrev pub with_run : RunsView → ℕ → RunView → RunsView
with_run v index run = record { items = slice_set v.items index run; room = v.room }

-- once the borrow r ends, the place has what was written through r
abbrev pub lends_run : (T : RattleType) → Ghosts T.Denot → MutBor RunsView → ℕ → MutBor RunView → Fml
lends_run T keeps v index r = Lends (runs.the_row T keeps) (place.the_row T keeps) v r (with_run v.now index)

-- and the place has what was written through the borrow of its run
abbrev pub lends_kept : (T : RattleType) → Ghosts T.Denot → MutBor RunView → MutBor RunView → Fml
lends_kept T keeps v r = Lends (place.the_row T keeps) (kept.the_row T keeps) v r (λ w. w)
