pub mod Phase
