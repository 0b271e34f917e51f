pub mod Adapters
pub mod Answers
pub mod Causes
pub mod Clocks
pub mod Memory
pub mod Streams
pub mod Watches
