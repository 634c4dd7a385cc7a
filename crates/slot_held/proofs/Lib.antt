-- what a value asks for that waits, and what is left
pub mod Held
-- the step is one that its definition allows
pub mod Laws
-- a value in place of the one before
pub mod Rights
