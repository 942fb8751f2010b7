-- Where a curve call starts: what the whole start leaves.
pub mod Machine
