pub mod Checked
pub mod Blamed
