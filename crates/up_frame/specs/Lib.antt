pub mod Stream
pub mod Holding
pub mod Cutting
pub mod Message
pub use Rattle.up_bytes.specs.Forms
