-- which constructor a result has
pub mod Parted
-- facts stay exact, and null may stand in moved places
pub mod ViewedFacts
-- points that make no leak check
pub mod Quiet
-- points that are neither a call nor its end
pub mod Plain
-- the frames of the machine after a step
pub mod Machine
-- those of lowered programs
pub mod Frames
-- those of both after a step
pub mod Subs
-- nothing is gone as a step begins
pub mod Clear
-- null where something was moved
pub mod Nulls
-- what names of what owns are
pub mod Leaked
-- what memories with null keep
pub mod Keeps
-- where names lead
pub mod Walks
-- parts of what owns
pub mod Parts
-- memories in which more cells were made
pub mod More
-- those after values were moved and made
pub mod Growing
-- what leak checks tell of then
pub mod Later
-- places of the machine
pub mod Found
-- what leak checks of assignments, calls and releases tell of
pub mod Targets
-- before the first step
pub mod Starts
-- the machine's greatest counts while a point is evaluated
pub mod Tops
-- and after a step
pub mod TopSteps
-- where it stores
pub mod TopStores
-- and that over slots the counts are the same
pub mod Rising
-- whole runs
pub mod Runs
-- what leak checks tell of
pub mod Checks
-- names of programs that are ready
pub mod Owns
-- the law for these
pub mod Ready
-- what a run leaves in such a heap
pub mod RecycledCells
