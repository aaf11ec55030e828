-- What the functions behind the entry points promise.
pub mod Position
