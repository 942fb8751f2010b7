-- Exact numbers: the laws, for other crates to cite as `Rattle.base_exact.proofs.M`. A module has the name of the definitions
-- that its laws are about; Decide, Ring and Integer are what the others rest on, Word links integers to machine words.
--
-- Names say the subject first and then what is said of it: `gcd-comm`, `sum-ext`, `floor-unique`.
-- - An operation's name as a suffix says how the subject meets it: `gcd-mul`, `nn-add`, `abs-mul`, `floor-int`. In Integer
--   and Order, where laws are many, an operation or a relation goes by its symbol: `*-assoc`, `≤_trans`.
-- - `is-add`, `is_mul`, ..: the rule of an operation for fractions in any terms, `q is a over b`.
-- - `nn-..` is about `Nn q`, that q is not negative; `pos-..` about int (pos 0) <ᵠ q.
-- - `-mono` keeps ≤, `-mono-<` keeps <, `-cancel` goes back; `-in` and `-out` lead into a relation and out of it.
-- - `-ext` is equality from equality at each place, `-unique` that the property stated determines the subject.
-- - `ltᵠ-true`, `ltᵠ-false`: what a test's value says. `lt_test`, `not-lt-test`: the test's value where the order is known.
-- - A bound is read as it stands: `floor-le` is floor q ≤ q, `lt-floor` is q < floor q + 1.
-- - Of a list function and a table, `tab-getD` is of the table alone, `getD-tab` of the table in front of other cells.
pub mod Decide
pub mod Ring
pub mod Integer
pub mod Gcd
pub mod Rational
pub mod Order
pub mod Sum
pub mod Floor
pub mod Word
pub mod Tabulate
pub mod Examples
