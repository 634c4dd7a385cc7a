-- what is answered passes
pub mod Passing
-- what holds of its runs
pub mod Sound
pub mod Headline
-- and of its lowering
pub mod Lowered
pub mod Recycled
