-- effects are the only ones of their program, and so are its reports
pub mod OneEffects
pub mod OneList
-- what the rules on the text report
pub mod OnText
-- states that are carried, counted over the points that code has
pub mod Counted
-- the answer for files whose program is laid out
pub mod Answered
