pub mod PlacedLoops
pub mod ListLoops
pub mod StatementLoops
pub mod ProgramLoops
