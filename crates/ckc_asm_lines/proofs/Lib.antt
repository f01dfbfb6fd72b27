pub mod Cases
pub mod LabelPlaces
pub mod LineCodes
pub mod PlaceTable
pub mod WholePieces
pub mod OneAssembly
