-- points that store one word at most
pub mod Changed
-- what is noted as moved, and the numbers of handles
pub mod Moves
-- points that may have leak checks
pub mod Left
-- the steps of points that store one word at most
pub mod WordsCome
-- the steps of points that may have leak checks
pub mod ValuesCome
