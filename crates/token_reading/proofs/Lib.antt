-- what a reader owes, and what its laws rest on
pub mod Sets
pub mod Lists
pub mod Law
-- the laws of the readers of one token
pub mod Tokens
pub mod FirstKinds
-- the laws of larger readers, by what they are made of
pub mod Seq
pub mod Made
pub mod Choice
pub mod Many
pub mod Nesting
pub mod Positions
pub mod Fronts
pub mod Loop
-- what the law of the reader of a whole file tells
pub mod Theorem
pub mod OneRefused
