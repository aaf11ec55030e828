-- One value line.
pub mod Reading
