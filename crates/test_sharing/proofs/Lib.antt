mod Acting
mod Making
mod Sending
mod Serving
