pub mod LengthTests
