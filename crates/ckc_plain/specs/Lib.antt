pub mod Codes
pub mod Phase
pub use Rattle.ckc_plain_barred
pub use Rattle.ckc_plain_bodies
