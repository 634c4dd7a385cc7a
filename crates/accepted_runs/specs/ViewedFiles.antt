-- what an accepted program with borrowers and observers gives to soundness
pub mod ViewLaws
-- what is asked of declarations and assignments of views
pub mod Sources
-- objects, scopes and bodies by their places in the text
pub mod Places
pub mod Laid
