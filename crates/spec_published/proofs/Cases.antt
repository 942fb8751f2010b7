-- The weights of the published construction in the cases of spec_spline, by computation: one `refl` for each line of the table.
use mathlib.Core.Path.{refl}
use Rattle.spec_spline.specs.Listing.{row_weights, table_weights}
use Rattle.spec_spline.specs.Cases.{cases}
use Rattle.spec_published.specs.Cases.{EveryCasePublished}
use Rattle.spec_published.proofs.Computing.{publishing}

-- The same weights by the published construction.
pub every_case_published : EveryCasePublished
unfolding publishing row_weights table_weights cases
every_case_published = (
  refl,
  (
    refl,
    (
      refl,
      (
        refl,
        (
          refl,
          (
            refl,
            (
              refl,
              (
                refl,
                (
                  refl,
                  (
                    refl,
                    (refl, (refl, (refl, (refl, (refl, (refl, (refl, (refl, (refl, (refl, (refl, (refl, (refl, (refl, (refl, (refl, tt)))))))))))))))),
                  ),
                ),
              ),
            ),
          ),
        ),
      ),
    ),
  ),
)
