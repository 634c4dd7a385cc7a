-- lists and what stands in them
pub mod Lists
-- points and where they lead
pub mod Successors
-- objects and scopes
pub mod Ordered
-- what is in scope
pub mod Within
pub mod Seen
-- temporaries in scope, and what is so beside them
pub mod Supplied
pub mod Left
pub mod Kept
pub mod Filled
pub mod Relaid
pub mod Temporaries
-- what follows a return
pub mod Returning
pub mod Given
pub mod Results
pub mod Alone
pub mod Lone
pub mod Fitted
pub mod Followed
pub mod Begun
pub mod Values
-- in which order objects stand in scope, and what follows where scopes end
pub mod LayeredScopes
