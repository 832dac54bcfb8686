pub mod Whys
pub mod Feeds
pub mod ListLogs
pub mod Reads
pub mod Taking
pub mod Pulls
