pub mod Assigned
