pub mod Examples
pub mod HexWords
