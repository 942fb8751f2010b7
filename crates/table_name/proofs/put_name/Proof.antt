-- `put_name` meets its contract: leading blanks are passed, trailing ones taken off what is left, and that is put.
use borrow.Author.Rules.{rules}
use native.Mathlib.Omega.{arith}
use mathlib.Core.Path.{◌≡◌, sym, ap, ◌∙◌}
use Prim.Native.Nat.{◌-◌}
use lib.ListN.{length, take, drop, length-drop}
use lib.Seq.{length-take-le, take_all}
use Rattle.base_text.specs.Bytes.{Text}
use Rattle.spec_tucson.specs.Shown.{trimmed}
use Rattle.spec_table.specs.RingLines.{bare_name, quoted_name}
use Rattle.tucson_series.proofs.Tests.{part-rest}
use Rattle.table_name.proofs.Name.{printed-front}
use Rattle.table_name.proofs.put_name.Statement.{statement}
use Rattle.table_name.proofs.put_name.Tie as tie

module _ (c : tie.After-trim_blanks-left) where
  abbrev start : tie.After-name_start-start
  start = c.before.before

  abbrev s : tie.Start
  s = start.before.before.before

  abbrev name : Text
  name = s.args.name.now

  abbrev rest : Text
  rest = take (length name - start.name_start-start.result) (drop start.name_start-start.result name)

  rest_is : rest ≡ drop start.name_start-start.result name
  rest_is = part-rest start.name_start-start.result name

  rest_length : length rest ≡ length name - start.name_start-start.result
  rest_length = ap length rest_is ∙ length-drop start.name_start-start.result name

  bare_length : length (take c.trim_blanks-left.result rest) ≡ c.trim_blanks-left.result
  bare_length = length-take-le c.trim_blanks-left.result rest (omega (arith, rest_length, c.trim_blanks-left.ensures.fewer))

  bare_is : take c.trim_blanks-left.result rest ≡ bare_name name
  unfolding bare_name
  bare_is =
      c.trim_blanks-left.ensures.is
      ∙ ap trimmed (take_all (length rest) rest (omega arith) ∙ rest_is ∙ start.name_start-start.ensures.is)

slice-aggregate-put-quoted : tie.Need-slice_bounds-put_quoted-end
slice-aggregate-put-quoted c = sym (bare_length c.before)

put-quoted-requires : tie.Need-put_quoted-requires
put-quoted-requires c κs =
    let t = c in
    omega (arith, bare_length t.before, t.trim_blanks-left.ensures.fewer, (s t.before).requires.whole)

returns : tie.Need-returns
returns c =
    let t = c in
    let p = c.put_quoted.ensures in
    record {
      within = p.few;
      counted = p.count_is ∙ ap (λ (u : Text). length (quoted_name u)) (bare_is t.before.before.before.before);
      is = printed-front (s t.before.before.before.before).requires.room p ∙ ap quoted_name (bare_is t.before.before.before.before);
    }

pub put_name_spec : {M : Type 1} → statement M
put_name_spec =
    tie.close
    (tie.spec
    (λ c κs. search rules)
    (λ c. search rules)
    (λ c. search rules)
    (λ c. search rules)
    (λ c κs. search rules)
    slice-aggregate-put-quoted
    put-quoted-requires
    (λ c. search rules)
    returns)
