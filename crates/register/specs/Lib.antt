pub mod Regeneration
pub mod Registers
pub mod Rule
pub mod Strings
pub mod Rows
