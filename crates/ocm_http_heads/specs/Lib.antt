pub mod ChunkLines
pub mod EmptyLines
pub mod Endings
pub mod Heads
pub mod Lengths
