-- Why carries and comparisons by place are what the definitions say on totals.
pub mod Places
pub mod Carry
pub mod Carries
pub mod CarriesByComparison
