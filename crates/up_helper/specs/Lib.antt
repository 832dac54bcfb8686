pub mod HelperWords
pub mod Signatures
