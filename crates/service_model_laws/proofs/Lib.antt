mod DoLemmas
mod RecordLemmas
