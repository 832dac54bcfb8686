pub mod Shown
pub mod Laws
pub mod Standing
pub mod Firsts
pub mod Looked
pub mod Outcomes
pub mod Listed
pub mod Written
