mod Codes
mod Floats
mod Params
