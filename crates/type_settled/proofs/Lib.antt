-- laws
pub mod Owning
pub mod Depths
pub mod Deepest
-- what the functions inside need
pub mod Noted
pub mod Measured
pub mod Holding
pub mod Ranked
pub mod Orders
pub mod RoundSteps
pub mod Capped
pub mod Reached
pub mod Unsound
pub mod Inside
pub mod Owned
