-- The lines that are kept, one raw line after another: the laws of spec_tucson, passed on.
pub use Rattle.spec_tucson.proofs.Kept.{kept_other, KeptData, kept_data}
