mod KeyParts
mod SwitchedPhases
mod Steps
mod Accumulators
mod Bootstraps
mod BootRowPlaces
