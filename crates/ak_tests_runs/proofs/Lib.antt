mod Holding
mod Resting
