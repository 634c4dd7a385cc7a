-- what the contracts of a parser's functions rest on, in the order of the grammar
pub mod Expressions
pub mod Items
pub mod Statements
pub mod Units
-- what laws of the spelling speak of
pub mod Nesting
pub mod Outermost
