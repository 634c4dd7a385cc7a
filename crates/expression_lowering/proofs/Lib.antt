-- what each form of a tree stands for
pub mod ExpressionLevels
pub mod Chains
-- loops
pub mod Steps
-- look-ups by position
pub mod NumberIndexes
