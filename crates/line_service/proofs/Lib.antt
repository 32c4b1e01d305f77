mod Names
mod Served
mod Stepping
mod Doing
mod Offering
