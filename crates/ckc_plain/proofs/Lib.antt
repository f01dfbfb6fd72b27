pub mod Relimiting
