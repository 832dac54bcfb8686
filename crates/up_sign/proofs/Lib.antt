pub mod HostNameLemmas
pub mod OneReadingLemmas
