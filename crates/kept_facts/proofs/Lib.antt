pub mod Names
pub mod Stays
mod Keeps
mod Rising
mod Again
mod Concerns
