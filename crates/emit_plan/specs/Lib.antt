pub mod Plans
pub mod Walkers
pub mod Idents
pub mod Top
pub mod Unchanged
pub mod Inside
pub mod Dressing
