pub mod AccessTexts
pub use Rattle.up_names.specs.Faults
pub use Rattle.up_names.specs.ItemLists
pub use Rattle.up_names.specs.TextMeanings
pub mod Printing
