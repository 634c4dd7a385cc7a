-- how many points there are, and which temporaries they fill
pub mod Fillings
pub mod PrepMeasured
pub mod Extents
pub mod UsesMeasured
pub mod LaidMeasured
-- where points stand in the numbers
pub mod Stands
pub mod PrepNumbers
pub mod UsesNumbers
pub mod LaidNumbers
pub mod Positions
pub mod Standing
-- both definitions are the same
pub mod Subprograms
pub mod Program
-- what code that emits points asks
pub mod Lengths
pub mod LaidLengths
pub mod Once
