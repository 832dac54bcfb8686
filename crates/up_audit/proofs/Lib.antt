pub mod ListLemmas
pub mod ChangeLemmas
pub mod MarkLemmas
pub mod NoteLemmas
pub mod OwnerLemmas
pub mod WordLemmas
pub mod TextLemmas
pub mod RunLemmas
