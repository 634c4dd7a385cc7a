-- what the adapters show
pub mod Outputs
