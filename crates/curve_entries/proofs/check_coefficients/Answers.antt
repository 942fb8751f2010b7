-- The count, two numbers a row, and then the first coefficient out of range.
use Rattle.std.proofs.Common.{◌∙◌, sym, ap, arith, ℕ, ◌*◌, [], length}
use Rattle.base_outcome.specs.Machine.{found}
use Rattle.base_outcome.specs.Search.{first}
use Rattle.build_space.specs.Machine.{space}
use Rattle.build_space.proofs.Bounds.{first-column-high}
use Rattle.spec_spline.specs.Space.{Space}
use Rattle.curve_entries.proofs.Entries.{coefficient-outside}
use Rattle.curve_entries.proofs.Refused.{coefficients_count, coefficients_sought}
use Rattle.curve_entries.proofs.check_coefficients.Goals as goal

pub overflow_mul-n : goal.overflow_mul-n
overflow_mul-n c =
    let joined : Space = space [] c.args.degrees.now c.args.orders.now in
    omega (
      arith,
      c.row_count-n.ensures,
      first-column-high joined c.requires.degrees_legal (length c.args.degrees.now) (omega arith),
      c.requires.few,
    )

pub returns-then-coefs-n : goal.returns-then-coefs-n
returns-then-coefs-n c =
    sym (coefficients_count (space [] c.args.degrees.now c.args.orders.now) c.args.coefs.now
    (λ e. c.if-coefs-n.true (e ∙ sym (ap (λ (n : ℕ). 2 * n) c.row_count-n.ensures))))

pub returns : goal.returns
returns c =
    let cs = c.args.coefs.now in
    c.refuse_first.ensures _ (c.first_outside-bad.ensures ∙ ap (λ t. found (first (length cs) t)) (sym (coefficient-outside cs)))
    ∙ sym (coefficients_sought (space [] c.args.degrees.now c.args.orders.now) cs (c.if-coefs-n.false ∙ ap (λ (n : ℕ). 2 * n) c.row_count-n.ensures))
