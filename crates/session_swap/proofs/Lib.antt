mod Deaf
mod Parts
mod Sends
mod Swapped
