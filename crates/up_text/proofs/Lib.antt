pub mod CutLemmas
pub mod DecodeLemmas
pub mod WordLemmas
pub mod CodeLemmas
pub mod NumberLemmas
pub mod IntLemmas
pub mod FitLemmas
pub mod ListLemmas
pub mod FieldLemmas
pub mod JoinLemmas
pub mod WordBytes
pub mod ListTold
pub mod EntryTold
pub mod KeyTold
pub mod ReplyTold
pub mod ReplyLines
pub mod PushLemmas
mod Examples
