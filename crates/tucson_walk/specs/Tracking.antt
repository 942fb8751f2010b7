-- What is known of the series of the lines that are left, behind a line.
use Rattle.std.specs.Prelude.{true, false, List, [], ◌∷◌, ◌≡◌, ℕ, zero, suc, ℤ}
use Rattle.std.proofs.Math.Option.{Option}
use Rattle.spec_tucson.specs.StrictLine.{Kept}
use Rattle.spec_tucson.specs.CleanSeries.{follows_its}
use Rattle.spec_tucson.specs.CleanNotes.{Ahead, ahead}

-- The next line, if there is one, begins a series.
abbrev pub Begins : Option Kept → List Kept → Type 0
Begins b [] = Unit {0}
Begins b (k ∷ ks) = follows_its b k ≡ false

-- There is a next line, and it goes on with the series of the one before.
abbrev pub GoesOn : Option Kept → List Kept → Type 0
GoesOn b [] = ⊥
GoesOn b (k ∷ ks) = follows_its b k ≡ true

abbrev pub ahead_with : ℕ → ℤ → ℕ → Ahead
ahead_with n c f = record { count = n; closing = c; last_fields = f }

-- So many lines of a series are left, with this closing and so many fields on the last; 0 where the next line begins one.
abbrev pub Tracks : ℕ → Option Kept → List Kept → ℕ → ℤ → ℕ → Type 0
Tracks unit b ks zero c f = Begins b ks
Tracks unit b ks (suc n) c f = (ahead unit ks ≡ ahead_with (suc n) c f) × GoesOn b ks
