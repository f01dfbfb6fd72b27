pub mod Chain
pub mod Fitting
pub mod Programs
pub mod Blame
pub mod Confined
pub mod Refused
