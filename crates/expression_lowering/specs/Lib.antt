-- what the public contract rests on
pub mod LoweredExpressions
-- what the functions inside promise each other
pub mod NumberIndexes
