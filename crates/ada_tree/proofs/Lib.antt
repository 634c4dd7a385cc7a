-- each tree is of one of the forms of the grammar
pub mod Forms
-- what is taken out of an expression or a name, by its form
pub mod LoneLevels
