pub mod Coded
pub mod CodedViews
pub mod CodedStores
pub mod Blocks
