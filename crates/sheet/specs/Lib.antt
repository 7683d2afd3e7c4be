pub mod Ticks
pub mod Sheet
pub mod Decimal
pub mod Lowest
