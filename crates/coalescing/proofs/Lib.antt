pub mod JoinLast
pub mod MergedSoFar
pub mod MergeLoop
pub mod Reordered
