pub mod Fields
pub mod Answers
pub mod Text
