-- what is read of rows, and nodes by their kinds
pub mod Reading
pub mod OtherNodes
-- the first of some positions
pub mod Earlier
pub mod Turns
-- the actuals of calls
pub mod Actuals
-- the first deep names of lists of names
pub mod DeepNames
-- those of acts, of trees and of statements
pub mod Acts
pub mod TreeNames
pub mod PrepNames
-- statements
pub mod OtherCode
pub mod Sources
pub mod Shared
pub mod Uses
pub mod CodeNames
pub mod ProgramNames
pub mod ObjectParts
pub mod Subprograms
-- what a caller has
pub mod Kept
