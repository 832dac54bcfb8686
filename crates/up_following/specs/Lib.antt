pub mod FollowLines
pub mod FollowTurns
pub mod FollowRuns
pub mod FollowAnswers
