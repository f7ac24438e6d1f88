mod Written
mod Chunks
