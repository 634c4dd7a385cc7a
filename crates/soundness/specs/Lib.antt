-- what typing says of expressions, of steps of runs and of code
pub mod TypedLaws
-- what the rules on facts say together of accepted programs
pub mod FactLaws
-- places, the ways that names take to them, and who owns what
pub mod OwnedWays
-- where the parts of a type stand among its words
pub mod PartOffsets
-- a memory as owners see it, and how steps change it
pub mod Seen
pub mod Changes
-- words have the types of what they stand in
pub mod Typed
-- what holds at each moment
pub mod Sound
-- what is asked of a program so that it does
pub mod Ready
-- borrowers and observers as owners see them
pub mod OwnedLoans
-- what facts without an element call moved is gone
pub mod ExactFacts
-- names and expressions of programs with borrowers and observers
pub mod ViewedSoundness
-- what is below, for those above
pub use Rattle.run_values.specs as run_values
