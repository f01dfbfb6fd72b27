pub mod Numbers
pub mod Locals
pub mod Members
pub mod Tests
pub mod Visible
pub mod Bodies
pub mod Fit
