pub mod References
pub use Rattle.sha2.specs.Sha256
pub use Rattle.hex.specs.Hex
