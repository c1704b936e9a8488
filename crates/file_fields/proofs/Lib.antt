pub mod Parting
pub mod Digits
pub mod Taking
pub mod Bytes
