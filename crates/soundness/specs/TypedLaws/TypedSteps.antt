-- what typing says of a step
pub mod Steps
