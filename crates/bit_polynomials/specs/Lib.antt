pub mod Polynomials
pub mod Lawful
pub mod Linear
pub mod Reduced
pub mod Powers
pub mod Moduli
