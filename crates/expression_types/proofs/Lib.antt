pub mod SameWord
pub mod Occurrences
pub mod IndexLists
pub mod ComponentNames
pub mod FormalNames
pub mod Statics
pub mod Wide
