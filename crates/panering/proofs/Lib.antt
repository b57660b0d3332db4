mod Reached
mod Slots
mod Stretches
mod Turns
