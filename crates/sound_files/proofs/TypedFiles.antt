-- the steps of programs without a fault of typing have expressions of the types of their places
pub mod TypedRuns
-- texts without a fault of typing are typed
pub mod TypedTexts
-- names
pub mod Denoted
-- subprograms
pub mod FirstFormals
pub mod Profiled
pub mod Traversed
-- the law
pub mod Main
-- typed programs in which what is named has room are lowered to codes
pub mod LoweredLaws
-- what resolved code means is as lowering asks, so that it is lowered if it is typed
pub mod LoweredFiles
-- texts without a fault of typing are lowered
pub mod LoweredTexts
-- such files are lowered
pub mod LoweredSources
