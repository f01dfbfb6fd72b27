pub mod Edges
pub mod Marks
pub mod Left
