pub mod SayLemmas
pub mod WordLemmas
pub mod UserLemmas
pub mod GatherLemmas
