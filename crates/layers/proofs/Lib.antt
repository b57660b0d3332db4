mod Lowered
mod Watching
