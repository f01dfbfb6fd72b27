pub mod Laid
pub mod Playing
