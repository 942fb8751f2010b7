-- Laws of texts in lent buffers, for other crates to cite as `Rattle.base_print.proofs.M`.
pub mod Buffer
