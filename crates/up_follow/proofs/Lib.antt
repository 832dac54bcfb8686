pub mod BatchLemmas
pub mod PullLemmas
pub mod TakingLemmas
pub mod ReadLemmas
