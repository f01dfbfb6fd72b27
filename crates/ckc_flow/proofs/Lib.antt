mod Lists
mod Marks
mod Exact
mod Rounds
