mod Prefix
mod Through
mod Start
mod Ticking
mod Whole
mod Taking
mod Sheets
mod Days
