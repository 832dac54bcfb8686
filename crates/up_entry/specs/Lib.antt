pub mod Attrs
pub mod ControlFiles
pub mod Showing
pub mod Rules
pub mod FixedForm
pub mod Checking
pub mod Spelling
pub mod Reading
pub mod RawEntries
pub use Rattle.up_bytes.specs.Reading as FieldReading
