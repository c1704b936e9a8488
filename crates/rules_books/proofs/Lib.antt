pub mod WrongLegs
