mod Dots
mod Filled
