pub mod FaultCounts
pub mod Fetching
pub mod Files
pub mod Memory
pub mod FaultMessage
pub mod NameText
pub mod Sinks
