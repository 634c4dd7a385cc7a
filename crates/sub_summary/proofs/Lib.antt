-- lists of facts that grow
pub mod FactLists
-- names of parts
pub mod PartFacts
-- ascending lists, and the objects that facts are rooted in
pub mod Ascending
pub mod KeptRoots
