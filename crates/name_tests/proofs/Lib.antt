-- what is compared
pub mod SmallRules
-- what occurrences denote, N1, N3 and N4
pub mod SmallOccurrences
-- N2, N5 and N6
pub mod SmallDeclarations
-- the declaration of each identifier
pub mod SmallIdentifiers
-- where the words of the rules leave a choice
pub mod SmallChoices
-- what the trees of whole sources are written with
pub mod SourceTrees
-- N1 in the sources in data/
pub mod UnknownNames
pub mod UnknownMembers
pub mod UnknownWithoutUse
pub mod UnknownInClauses
pub mod UnknownInUseType
-- N2
pub mod DoubledNames
pub mod DoubledInRegions
pub mod DoubledCompletions
pub mod DoubledUnits
-- N3
pub mod HiddenNames
pub mod LackingWiths
-- N4
pub mod EarlyNames
pub mod EarlyEnds
pub mod EarlyUnits
-- N5 and N6
pub mod MissingBodies
pub mod ClosingNames
-- sources that break two rules
pub mod TwoFirstUnknown
pub mod TwoFirstDoubled
pub mod TwoFirstDoubledUnits
pub mod TwoFirstHidden
pub mod TwoFirstEarly
pub mod TwoFirstMissing
-- sources that break any rule
pub mod RandomNames
pub mod RandomBodies
pub mod ChangedPrograms
