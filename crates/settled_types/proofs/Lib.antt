pub mod StatementCases
pub mod ExpressionCases
pub mod TypedCases
pub mod Cases
pub mod Counts
pub mod Ringless
pub mod Wholes
pub mod Lone
pub mod Rows
pub mod Turns
pub mod Homes
pub mod Gathered
pub mod Faultless
pub mod Main
pub mod Examples
-- the code of files declares in order
pub mod OrderlyFiles
-- what gathering makes of a program: types are made of types
pub mod GatheredLaws
-- the identifiers of parsed files stand in the order of the text
pub mod FilePositions
-- what the rules of names say of the code of files
pub mod NamedFiles
-- anonymous access types in programs without a fault of typing
pub mod AnonymousTypes
-- types that are read while declarations are gathered are those that are read at last
pub mod SteadyTypes
-- tables of types that are fit for runs
pub mod TableLaws
-- which accepted programs are ready, by their typed and their resolved code
pub mod OrderLaws
