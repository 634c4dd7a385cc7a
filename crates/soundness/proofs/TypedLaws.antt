-- steps of names and types that agree
pub mod Steps
pub mod Agreeing
-- names, other forms, operators, aggregates and allocators
pub mod Readings
pub mod Named
pub mod Cases
pub mod Operators
pub mod Wholes
-- the law, and what follows from it
pub mod Main
pub mod Sound
pub mod Sorts
pub mod Assigns
-- what typing says of code: the instructions of its points are as soundness needs them
pub mod TypedPoints
