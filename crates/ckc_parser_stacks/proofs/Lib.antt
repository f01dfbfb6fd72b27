pub mod Tops
pub mod Visiting
