-- What is shown fits the array, or is too long for any strict line.
use Rattle.std.proofs.Common.{arith, Bool, ◌≡◌, sym, ◌∙◌, ap, subst, ℕ, ◌+◌, ◌-◌}
use lib.Seq.{slice}
use Rattle.base_text.specs.Bytes.{Text, Range}
use Rattle.spec_tucson.specs.Shown.{expanded, shown}
use Rattle.spec_tucson.specs.StrictLine.{any_high}
use Rattle.tucson_lines.specs.Machine.{LineEnd}
use Rattle.tucson_lines.proofs.Lines.{end_within}
use Rattle.tucson_columns.specs.Machine.{LineShown}
use Rattle.tucson_shown.specs.Machine.{FieldsAre, FieldsLong}
use Rattle.tucson_shown.proofs.Fields.{high-shown}
use Rattle.tucson_shown.proofs.Told.{plain_told, long_high, long_low}
use Rattle.tucson_shown.proofs.strict_fields.Goals as goal

-- where what is shown ends
module _ {text : Text} {from end to : ℕ} (at : LineEnd text from end) (ends : LineShown text from end to) where
  range : Range text from to
  range = record { ordered = ends.after; within = omega (arith, ends.before, end_within text from end at) }

  -- more than any strict line has
  long : FieldsLong (expanded 0 (slice from to text)) → FieldsLong (shown (slice from (end + 1) text))
  long f = subst FieldsLong (sym ends.is) f

  high : {b : Bool} → b ≡ any_high (slice from to text) → any_high (shown (slice from (end + 1) text)) ≡ b
  high e = ap any_high ends.is ∙ high-shown 0 (slice from to text) ∙ sym e

pub is_plain-requires : goal.is_plain-requires
is_plain-requires c = record {
  range = range c.requires.at c.shown_to-to.ensures;
  size = c.requires.size;
  room = c.requires.room;
}

pub returns-then-is_plain : goal.returns-then-is_plain
returns-then-is_plain c =
    let a = c.args in
    let to = c.shown_to-to.result in
    plain_told (slice a.from (a.end + 1) a.text.now) (slice a.from to a.text.now) c.is_plain.new.bytes c.is_plain.new.line (to - a.from)
    (c.is_plain.auto.bytes ∙ c.requires.size) (c.is_plain.auto.line ∙ c.requires.room) c.shown_to-to.ensures.is
    (c.is_plain.ensures c.if-is_plain.true)

pub show-requires : goal.show-requires
show-requires c = record { range = range c.requires.at c.shown_to-to.ensures; size = c.is_plain.auto.bytes ∙ c.requires.size }

pub fit_line-requires : goal.fit_line-requires
fit_line-requires c =
    let front = c.in-Some.front in
    record {
      at = c.requires.at;
      fields = subst (λ (t : Text). FieldsAre t front.count front.site c.show.new.bytes) (sym c.shown_to-to.ensures.is) c.in-Some.ensures;
      size = c.show.auto.bytes ∙ c.is_plain.auto.bytes ∙ c.requires.size;
      room = c.is_plain.auto.line ∙ c.requires.room;
    }

pub any_high-requires : goal.any_high-requires
any_high-requires c = range c.requires.at c.shown_to-to.ensures

pub returns-then-any_high : goal.returns-then-any_high
returns-then-any_high c =
    let at = c.requires.at in
    let ends = c.shown_to-to.ensures in
    long_high (slice c.args.from (c.args.end + 1) c.args.text.now) (long at ends c.in_default.ensures)
    (high at ends c.any_high.ensures ∙ c.if-any_high.true)

pub returns : goal.returns
returns c =
    let at = c.requires.at in
    let ends = c.shown_to-to.ensures in
    long_low (slice c.args.from (c.args.end + 1) c.args.text.now) (long at ends c.in_default.ensures)
    (high at ends c.any_high.ensures ∙ c.if-any_high.false)
