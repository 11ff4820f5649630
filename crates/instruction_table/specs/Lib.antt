pub mod Arguments
pub mod FaultNumbers
pub mod Laws
pub mod Table
