mod Keeping
mod Passing
mod Images
mod Printings
mod Runs
mod Steadiness
