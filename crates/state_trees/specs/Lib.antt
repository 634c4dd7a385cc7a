-- what the public contract rests on
pub mod FactStates
pub mod Concerns
-- what the functions inside promise each other
pub mod Indexes
