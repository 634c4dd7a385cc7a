mod Naming
mod Typing
mod Lowering
mod Quiet
mod Unreported
mod Affected
pub mod Small
pub mod Sound
pub mod Observed
pub mod Lent
pub mod Handed
pub mod Copied
pub mod Shown
pub mod Behind
pub mod Traversed
pub mod Filled
pub mod Shared
pub mod Bundled
pub mod Rowed
pub mod Watched
pub mod Doubled
pub mod Reached
