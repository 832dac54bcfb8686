pub mod KeyParts
pub mod ClientParts
pub mod WordParts
pub mod ServerParts
