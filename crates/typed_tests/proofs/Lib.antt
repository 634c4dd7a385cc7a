-- what is compared
pub mod TypedRules
-- what resolved trees are written with
pub mod ResolvedTrees
-- the typed programs of the sources in data/, by hand
pub mod Expected
-- that they are these
pub mod TypedSources
-- how names of places are printed
pub mod PrintedNames
