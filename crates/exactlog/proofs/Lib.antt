mod Exact
mod Kept
