pub mod Elf
pub mod Image
pub mod Words
