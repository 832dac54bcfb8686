mod Examples
pub mod CutLemmas
pub mod DomainLemmas
pub mod UserLemmas
pub mod Cleaning
pub mod Firsts
pub mod Owners
pub mod Joined
pub mod PathLaws
pub mod PathEdits
pub mod ControlTextLemmas
pub mod PathPlaces
pub mod ItemLemmas
mod UserExamples
mod ItemExamples
mod ControlTextExamples
pub mod PathComparisons
pub mod PathPieces
pub mod ItemLaws
pub mod PathAgain
mod PathExamples
pub mod PathMaps
pub mod ItemBytes
pub mod TextMeaningLemmas
pub mod ItemListLemmas
