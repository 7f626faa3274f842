mod BinaryResults
mod Searches
