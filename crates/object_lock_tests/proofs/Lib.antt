mod Bringing
mod Filling
mod Zeros
