pub mod FileLaws
pub mod Files
pub mod InMemory
pub mod Moments
pub mod Questions
pub mod Seeds
pub mod Sockets
