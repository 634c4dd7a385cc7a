-- acts that no fact forbids, in a list and on control paths
pub mod Allowed
-- facts none of which clashes with another one
pub mod Apart
