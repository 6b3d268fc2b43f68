mod Told
mod Found
