-- what typing says of expressions, of steps of runs and of code
pub mod TypedLaws
-- what the rules on facts say together of accepted programs
pub mod FactLaws
pub mod Constructors
pub mod Parted
-- places, the ways that names take to them, and who owns what
pub mod OwnedWays
-- where the parts of a type stand among its words
pub mod PartOffsets
-- parts of parts, and changes of contents as steps of owners
pub mod Joined
pub mod Contents
-- what the functions of memory change
pub mod Memories
pub mod Steps
pub mod Defaults
pub mod Ends
pub mod Fresh
pub mod Frees
-- these changes keep states sound
pub mod Moments
-- names, scalar expressions, and expressions that may own
pub mod Near
pub mod Walks
pub mod Scalars
pub mod Waits
pub mod Taking
pub mod Stays
pub mod Numbers
pub mod Joining
pub mod Filling
pub mod Evaluated
-- an assignment; what evaluations leave as it is; what a step that raises leaves
pub mod Fading
pub mod Raised
-- words stay typed
pub mod Keeping
pub mod Lasting
-- the acts of points on control paths
pub mod Paths
-- sound states are well owned; instructions
pub mod Owners
pub mod Freeing
pub mod Loops
pub mod Operands
pub mod Eased
pub mod Continued
pub mod Endings
-- where steps go on, with which variables; points by number
pub mod Scoped
pub mod Onward
pub mod Following
pub mod Points
pub mod Typings
pub mod Successors
pub mod Waited
pub mod Temporaries
-- calls: facts of the frames around, acts on package objects, formals, the ends of calls
pub mod Inherited
pub mod Used
pub mod Around
pub mod Fixed
pub mod Passing
pub mod Returning
-- before the first step
pub mod Beginning
-- borrowers and observers as owners see them
pub mod OwnedLoans
-- what facts without an element call moved is gone
pub mod ExactFacts
-- names and expressions of programs with borrowers and observers
pub mod ViewedSoundness
-- lemmas of what is below, for those above
pub use Rattle.spark_base.proofs.Lists as Lists
pub use Rattle.place_names.proofs.Names as PlaceNames
pub use Rattle.place_names.proofs.Facts as PlaceFacts
