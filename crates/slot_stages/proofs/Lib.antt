-- what a step sees of a stage
pub mod Sights
-- stages after a step that goes on
pub mod Goes
-- values that wait
pub mod Waits
-- frames that are entered and left
pub mod Frames
-- what the next step comes to
pub mod Turns
-- calls and their ends
pub mod Calls
-- where the main procedure begins and ends
pub mod Mains
-- what is kept before the first step
pub mod Starts
-- where a run goes on after a point
pub mod Leads
