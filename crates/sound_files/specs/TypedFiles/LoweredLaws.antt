-- what a program needs, beside its types, to be lowered
pub mod Lowers
