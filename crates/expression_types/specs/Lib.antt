pub mod Here
pub mod Formals
pub mod Occurrences
pub mod IndexLists
pub mod ComponentNames
pub mod FormalNames
