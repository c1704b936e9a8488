pub mod Firsts
pub mod Least
pub mod Fairness
pub mod NotTried
