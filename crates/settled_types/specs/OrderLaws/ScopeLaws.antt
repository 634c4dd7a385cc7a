pub mod Code
pub mod Order
pub mod Supplied
pub mod Returning
pub mod Alone
pub mod Fitted
-- in which order objects stand in scope, and what follows where scopes end
pub mod LayeredScopes
