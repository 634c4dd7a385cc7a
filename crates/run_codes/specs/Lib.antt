-- what the public contract rests on
pub mod Codes
pub mod Flat
pub mod Lowered
pub mod Programs
pub mod Points
-- what the lemmas go by
pub mod Related
