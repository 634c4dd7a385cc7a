-- what is tested of subprograms
pub mod Tests
