pub mod NamedTexts
pub mod RunFindings
pub mod OpenedValues
