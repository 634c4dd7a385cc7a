-- what each form of a statement stands for
pub mod StatementLevels
pub mod StatementsMade
-- loops
pub mod Steps
