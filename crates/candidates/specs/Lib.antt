pub mod Candidates
pub mod MadeNames
pub mod Faults
