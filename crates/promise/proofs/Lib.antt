mod Sessions
mod Bounds
mod Agreement
mod Tickets
mod Sums
mod Whole
