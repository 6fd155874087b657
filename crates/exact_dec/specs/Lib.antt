pub mod Computed
pub mod Decimal
pub mod DecimalMessage
pub mod DecimalAnswers
pub mod Spelled
pub mod MillimetreText
