pub mod Agreement
mod ByFormat
mod Elf
mod First
mod Words
