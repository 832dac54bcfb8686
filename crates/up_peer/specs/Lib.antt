pub mod Asking
pub mod InMemory
pub mod Loading
