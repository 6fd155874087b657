pub mod Buffer
pub mod NetBlock
pub mod NoteLines
pub mod Report
pub mod ReportOf
