-- what the public contracts rest on
pub mod Names
pub mod Facts
pub mod Shared
pub mod Rules
pub mod Reports
pub mod Printed
pub mod Texts
