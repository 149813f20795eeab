pub mod QuickLemmas
