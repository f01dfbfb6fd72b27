pub mod CallLines
pub mod Lines
pub mod Operands
pub mod ProgramLines
pub use Rattle.ckc_emit_templates.specs.code.Emitting
