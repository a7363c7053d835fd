mod Refusing
mod Rows
mod Turning
