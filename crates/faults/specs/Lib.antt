pub mod Exact
pub mod Faulty
pub mod Parts
