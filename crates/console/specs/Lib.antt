pub mod Feeds
pub mod Verbs
pub mod Sources
