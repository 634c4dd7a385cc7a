-- what a step sees of the parts of a run
pub mod Sights
-- what a step comes to
pub mod Leads
-- where a run begins
pub mod Begun
-- libraries that the crates above name through this one
pub use Rattle.slot_leads.proofs as slot_leads
