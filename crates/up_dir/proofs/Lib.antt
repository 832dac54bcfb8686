pub mod AskLemmas
pub mod CrashLemmas
pub mod FormLemmas
pub mod QuietLemmas
