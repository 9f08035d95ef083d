pub mod Searching
pub mod Reaching
pub mod Entering
pub mod Looking
pub mod Stepping
pub mod Making
