pub mod Laws
pub mod Making
pub mod Meaning
pub mod Operations
pub mod Refusals
