pub mod Unruled
