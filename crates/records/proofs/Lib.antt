mod BitLists
mod Framed
mod Masked
