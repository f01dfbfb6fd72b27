pub mod Origins
pub mod Copied
pub mod code
