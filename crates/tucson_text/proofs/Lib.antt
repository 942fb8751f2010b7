-- Room says that the buffers of the filter take the series of every text that it holds; Rewriting leads from the contracts of the
-- two calls to what the filter gives.
pub mod Room
pub mod Rewriting
