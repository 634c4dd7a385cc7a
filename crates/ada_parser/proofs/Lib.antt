pub mod UnitTurns
pub mod Refusing
