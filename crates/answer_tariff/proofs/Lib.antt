pub mod Charging
