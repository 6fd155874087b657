pub mod Calls
pub mod CallValues
