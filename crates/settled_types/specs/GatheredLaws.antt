-- numbers of types, and what is known that speaks of these
pub mod Made
-- types with names and anonymous access types
pub mod Views
-- code without anonymous access types, and what typing says of subtypes and instances
pub mod Named
pub mod Faultless
-- kinds of definitions, how types are based on others, and what literals and instances are of
pub mod DefinitionKinds
pub mod Based
pub mod Says
-- records with components of their own names
pub mod Components
-- what is left to be proved
pub mod Left
