-- what `check` accepts
pub mod Main
