mod Bits
mod Lookups
