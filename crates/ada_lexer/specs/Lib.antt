-- what the public contract rests on: characters, what stands at the front of a text, positions, the
-- cut of a whole text
pub mod Characters
pub mod ReservedWords
pub mod Identifiers
pub mod Numbers
pub mod Strings
pub mod Delimiters
pub mod Pieces
pub mod Positions
pub mod Tokens
-- what the functions inside promise each other
pub mod Promises
