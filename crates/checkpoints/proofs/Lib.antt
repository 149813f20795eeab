mod FaultLemmas
mod HaltLemmas
mod HandedLemmas
mod OrderLemmas
mod QueueLemmas
mod StartLemmas
