mod Stays
mod Searched
mod Plans
mod Touched
