pub mod Verdicts
pub mod Marks
