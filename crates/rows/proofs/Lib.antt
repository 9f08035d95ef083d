pub mod Ordering
pub mod Soundness
pub mod Answers
pub mod Larger
pub mod Five
