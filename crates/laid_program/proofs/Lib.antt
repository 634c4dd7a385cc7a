-- the successors of points by name, and so by number
pub mod Named
pub mod PrepLeads
pub mod LaidLeads
pub mod Successors
-- the facts that acts add
pub mod FactLists
-- both of programs that are laid out
pub mod Kept
