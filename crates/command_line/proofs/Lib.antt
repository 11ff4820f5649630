pub mod Found
pub mod Numbers
