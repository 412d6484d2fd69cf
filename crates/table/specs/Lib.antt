pub mod Logarithms
pub mod Agreement
pub mod Agreeing
pub mod Exponents
pub mod Transfer
