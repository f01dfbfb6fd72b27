mod Elements
mod Places
mod Found
mod Truth
