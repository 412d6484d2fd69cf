pub mod Modulo
pub mod Modular
