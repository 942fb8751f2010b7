-- A short name for what a function on a line's name tells.
use Rattle.std.specs.Prelude.{Bool}
use Rattle.base_text.specs.Bytes.{Text}
use Rattle.spec_tucson.specs.Shown.{trimmed}
use Rattle.spec_tucson.specs.StrictLine.{name_of}
use Rattle.spec_tucson.specs.CleanSeries.{any_blank}

-- A blank stands in the name with another byte behind it.
abbrev pub blank_inside : Text → Bool
blank_inside t = any_blank (trimmed (name_of t))
