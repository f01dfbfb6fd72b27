pub mod Smalls
