pub mod Plans
pub mod EnrolLines
pub mod Enrolling
pub mod Telling
pub mod Serving
pub mod Moves
