mod Filled
mod Passing
