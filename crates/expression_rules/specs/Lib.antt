pub mod Around
pub mod Arguments
