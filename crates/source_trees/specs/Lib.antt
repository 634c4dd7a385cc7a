-- what the layers above rest on
pub mod Cuts
pub mod Trees
