-- The proofs of the statements in specs/, over the laws of theorems_stages. NineNever concludes that code 9 never comes. WeightCount
-- counts weights. Small to LowOrders are the sizes of the orders 0 and 1; Curves and Values speak of curve calls. StepFactors to
-- ClosedForms give every weight as a formula, Instances are examples with numbers.
pub mod SafeOrders
pub mod NineNever
pub mod WeightCount
pub mod Small
pub mod Loads
pub mod LowJumps
pub mod LowSteps
pub mod LowOrders
pub mod Curves
pub mod Values
pub mod StepFactors
pub mod Closed
pub mod ClosedStep
pub mod ClosedForms
pub mod Instances
