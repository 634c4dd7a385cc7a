-- what the proofs cite
pub mod Selectors
-- laws of the definitions
pub mod Names
pub mod Facts
pub mod Rules
pub mod Reports
pub mod Examples
