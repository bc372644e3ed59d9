pub mod FirstPlaces
pub mod Jobs
pub mod Steps
