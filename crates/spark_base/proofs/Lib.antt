-- orders, and that of positions
pub mod Orders
pub mod Positions
-- membership in a list
pub mod Lists
-- what the functions' proofs cite
pub mod Pieces
pub mod NamedFiles
