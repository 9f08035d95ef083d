pub mod Search
pub mod Store
pub mod Post
pub mod Filed
pub mod Making
