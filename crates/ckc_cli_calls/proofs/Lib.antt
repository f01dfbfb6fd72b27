pub mod Fetched
pub mod Reports
