mod Breaks
mod Fits
mod NoBreach
mod Widens
