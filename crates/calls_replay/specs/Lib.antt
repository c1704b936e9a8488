pub mod Entries
pub mod Replay
