pub mod MadeLines
pub mod MadeLength
