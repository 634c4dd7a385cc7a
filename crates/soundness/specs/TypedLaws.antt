-- when an expression has a type, and what that asks for
pub mod Fine
-- what soundness asks of expressions and instructions
pub mod Needed
-- what typing says of the steps of runs
pub mod TypedSteps
-- what typing says of code: the instructions of its points are as soundness needs them
pub mod TypedPoints
