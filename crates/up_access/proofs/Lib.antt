pub mod ColonLemmas
pub mod RightsLemmas
pub mod JoinLemmas
pub mod WordLemmas
pub mod Printable
pub mod ReadAgain
mod Examples
