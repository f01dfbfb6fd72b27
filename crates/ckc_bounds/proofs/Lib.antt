pub mod Frames
pub mod Lists
pub mod Seen
pub mod CodedTexts
pub mod WholeBodies
pub mod LocalsJoined
pub mod WholeFunctions
pub mod WholeTexts
