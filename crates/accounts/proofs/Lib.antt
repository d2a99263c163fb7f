mod Incomplete
mod Sounds
mod Gaps
