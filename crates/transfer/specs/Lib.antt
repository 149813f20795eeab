pub mod Logs
pub mod Outboxes
pub mod Inboxes
