-- what is compared
pub mod TypeRules
-- what resolved trees are written with
pub mod ResolvedTrees
-- K1 to K8 in the sources in data/
pub mod WrongTypes
pub mod WrongPlaces
pub mod WrongOwners
pub mod AnonymousSources
pub mod TraversedActuals
pub mod WrongValues
-- Y1 to Y3
pub mod WrongSizes
-- sources that break none
pub mod TypedSources
-- types that are used before their full definition
pub mod FullTypes
-- what follows from a fault
pub mod UnknownTypes
-- laws of types that aren't known
pub mod UnknownLaws
