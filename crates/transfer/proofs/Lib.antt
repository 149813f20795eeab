pub mod OutboxLemmas
pub mod ContentLemmas
