mod CanFolds
mod Answering
