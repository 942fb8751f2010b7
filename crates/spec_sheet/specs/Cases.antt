-- Cases W1 and W9 as sheets and their printouts (§ 13, § 15; § 6 for the values,
-- § 8 for the pairs), byte for byte. W9 is a beam of two parts, whose w lines count over the beam (§ 4). The statement at the
-- end is proved by computation in proofs/Cases; the cases of the calls alone are crate spec_spline's.
use Rattle.std.specs.Prelude.{[], ◌∷◌, ◌≡◌}
use Rattle.base_text.specs.Bytes.{Text, lines}
use Rattle.spec_sheet.specs.Sheet.{printout}

-- The sheet of W1.
unfoldable pub w1_text : Text
w1_text = lines (
    "breaks=0,1,3" ∷
    "degrees=2,2" ∷
    "orders=1" ∷
    "coefs=0:0,100:100,0:0,0:0" ∷
    "at=256,512" ∷ [])

-- Its printout.
unfoldable pub w1_printout : Text
w1_printout = lines (
    "n=4" ∷
    "w=0,0,1/1" ∷
    "w=1,1,1/1" ∷
    "w=1,2,2/3" ∷
    "w=1,3,2/3" ∷
    "w=2,2,1/3" ∷
    "w=2,3,1/3" ∷
    "w=2,4,1/1" ∷
    "w=3,5,1/1" ∷
    "v=256,17067:17067" ∷
    "v=512,4267:4267" ∷ [])

-- The sheet of W9.
unfoldable pub w9_text : Text
w9_text = lines (
    "breaks=0,1,2" ∷
    "degrees=1,1" ∷
    "orders=-1" ∷
    "coefs=0:0,10:10,20:20,30:30" ∷
    "at=256" ∷ [])

-- Its printout.
unfoldable pub w9_printout : Text
w9_printout = lines (
    "n=4" ∷
    "w=0,0,1/1" ∷
    "w=1,1,1/1" ∷
    "w=2,2,1/1" ∷
    "w=3,3,1/1" ∷
    "v=256,2560:2560" ∷ [])

-- Each sheet gives its printout.
abbrev pub SheetCasesHold : Type 0
SheetCasesHold = (printout w1_text ≡ w1_printout) × (printout w9_text ≡ w9_printout)
