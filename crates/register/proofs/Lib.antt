pub mod Cells
pub mod Corrections
pub mod Regenerates
pub mod Shifts
pub mod Sums
pub mod Tests
