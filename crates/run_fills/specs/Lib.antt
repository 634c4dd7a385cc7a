-- what the lemmas go by
pub mod Filled
