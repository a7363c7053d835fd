mod Choosing
mod Validity
