mod Numbers
mod Instructions
mod Functions
mod Encodable
