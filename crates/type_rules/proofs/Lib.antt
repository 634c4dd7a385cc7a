-- laws
pub mod Formed
pub mod Checked
