pub mod Roots
pub mod TextChanges
pub mod WrittenBoard
pub mod SameBoards
pub mod Ledger
pub mod Reads
pub mod AddedReads
