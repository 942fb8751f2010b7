-- What the contracts of rings_pieces cite beside the definitions of crate spec_rings.
pub mod Piece
