-- What the checks below number 6 begin with.
pub mod Listed
