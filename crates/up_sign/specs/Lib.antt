pub mod HostNames
pub mod SigningOn
pub mod OneReading
