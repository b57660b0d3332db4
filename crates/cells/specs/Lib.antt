pub mod Capped
pub mod Cells
pub mod MisraGries
pub mod Rules
pub mod Vouched
