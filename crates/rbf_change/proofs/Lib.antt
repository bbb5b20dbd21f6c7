pub mod LawfulWrites
