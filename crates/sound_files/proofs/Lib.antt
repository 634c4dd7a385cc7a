-- what names denote in accepted files is in scope where they stand
pub mod SeenFiles
-- files that are meant: trees are those of the grammar, identifiers denote what is declared, and objects have the types that are indicated
pub mod MeantFiles
-- what the calls of typed programs go to
pub mod CalledSubs
-- the crate itself
pub mod Whole
pub mod Written
pub mod Once
pub mod Kinded
pub mod Known
pub mod Declared
pub mod Flat
pub mod Laws
pub mod Main
-- what is called
pub mod Called
-- the program as it is laid out
pub mod Classes
pub mod Mains
pub mod Functions
pub mod Shared
pub mod Fronts
pub mod Owners
-- what settled_types proves, in the words of soundness
pub mod ReadyTypes
-- files without a fault are typed as the machine asks, and lowered
pub mod TypedFiles
