-- The calls beside building and the curve call as definitions: ring indices (§ 9) in Indices, the first reach (§ 10) in Reach over
-- Positions, pieces (§ 11) in Pieces, both over CurveAlone, coefficients from local ordinates (§ 12) in Recovery and RecoveryCall. Each
-- call has a record of all that it ends with. Cases is a table of calls for coefficients, Ends says what the others leave of the curve
-- call.
pub mod Indices
pub mod CurveAlone
pub mod Positions
pub mod Reach
pub mod Pieces
pub mod Recovery
pub mod RecoveryCall
pub mod Cases
pub mod Ends
