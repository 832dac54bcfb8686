pub mod BeginsLemmas
pub mod Causes
pub mod CountExamples
pub mod RunLemmas
