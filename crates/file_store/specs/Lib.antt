pub mod FileRows
