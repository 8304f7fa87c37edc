pub mod Numbers
pub mod Lines
pub mod Many
pub mod Reading
pub mod Laws
