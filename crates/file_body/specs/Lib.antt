pub mod Values
pub mod Body
pub mod Files
pub mod Bodies
