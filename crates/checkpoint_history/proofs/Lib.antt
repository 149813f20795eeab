mod StepCounts
mod RunLemmas
mod OverLemmas
mod OpeningLemmas
mod HistoryLemmas
mod CountLemmas
mod StoreLemmas
