pub mod Commands
pub mod CommandsOf
pub mod Fits
pub mod ScriptForms
pub mod CommandGrammar
pub mod ScriptReasons
pub mod ScriptText
pub mod ScriptValues
