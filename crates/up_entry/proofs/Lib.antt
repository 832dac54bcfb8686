mod Examples
pub mod FixedFormLemmas
pub mod CheckingLemmas
pub mod CheckedLemmas
mod CheckingExamples
pub mod EntryFields
pub mod EntryParts
pub mod RecParts
pub mod RawParts
