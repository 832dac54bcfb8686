pub mod Getting
pub mod Links
pub mod Putting
pub mod Replies
pub mod Tables
pub mod Talks
