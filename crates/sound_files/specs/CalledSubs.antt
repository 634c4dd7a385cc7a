-- calls in typed code, and what resolved code declares
pub mod Called
