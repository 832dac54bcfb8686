pub mod Plots
pub mod Asks
pub mod Answered
