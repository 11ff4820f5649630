pub mod Admitted
pub mod Headline
pub mod Ran
pub mod Shown
pub mod Tables
pub mod Threads
