mod FollowLemmas
mod FoundLemmas
mod LaidLemmas
mod PieceLemmas
mod SetupLemmas
mod StageLemmas
mod TextLemmas
mod WrittenLemmas
