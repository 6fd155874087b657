pub mod Past
pub mod Ways
pub mod HistoryCalls
pub mod Keeping
pub mod HistoryContents
pub mod HistoryReasons
