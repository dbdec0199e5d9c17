mod Calling
mod Foreign
mod Staying
