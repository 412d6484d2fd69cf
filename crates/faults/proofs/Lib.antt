pub mod Agrees
pub mod Beginnings
pub mod Complete
pub mod Inverts
pub mod Outcomes
pub mod Sound
