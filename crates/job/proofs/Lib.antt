mod Rest
mod Columns
mod Names
