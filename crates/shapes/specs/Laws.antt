-- Laws of the shapes, and of a length by its number; those of the bits that are sent stand in
-- proofs/. Assumes nothing.
pub mod Shapes
pub mod Lengths
