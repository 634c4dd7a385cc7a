-- states that have what earlier ones had
pub mod Later
