-- what names denote in accepted files is in scope where they stand
pub mod SeenFiles
-- files that are meant: trees are those of the grammar, identifiers denote what is declared, and objects have the types that are indicated
pub mod MeantFiles
-- what the calls of typed programs go to
pub mod CalledSubs
-- what settled_types proves, in the words of soundness
pub mod ReadyTypes
-- files without a fault are typed as the machine asks, and lowered
pub mod TypedFiles
