-- what a text does with names
pub mod ExpressionOutline
pub mod Outline
-- what is known of names, and what they denote
pub mod Declarations
pub mod Predefined
pub mod Known
pub mod Completions
pub mod KnownBehind
pub mod Denotes
pub mod Identified
pub mod Faults
-- what they amount to
pub mod Laws
-- what the functions inside promise each other
pub mod Collected
