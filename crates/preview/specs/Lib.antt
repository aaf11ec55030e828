-- What a preview asks.
pub mod Previews
