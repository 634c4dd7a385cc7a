-- what the results of code stand for
pub mod Results
-- the lines of failed leak checks
pub mod Lines
-- what calls do to a sink
pub mod Pieces
