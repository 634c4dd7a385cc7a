-- fronts of subprograms
pub mod Fronts
-- what is known of profiles, and of numbers without a name
pub mod Shown
