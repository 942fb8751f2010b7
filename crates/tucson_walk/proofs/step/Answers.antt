-- A line that is left out, a line that is refused, which none is here, or a line that is taken.
use Rattle.std.proofs.Common.{arith, ◌≡◌, true, refl, sym, ◌∙◌, ℕ, suc, ◌+◌, take}
use lib.Seq.{slice}
use Rattle.base_exact.proofs.Decide.{clash}
use Rattle.base_outcome.specs.Outcome.{answer, refuse}
use Rattle.base_text.specs.Bytes.{Text}
use Rattle.spec_tucson.specs.StrictLine.{strict_line}
use Rattle.spec_tucson.specs.KeptLines.{is_data}
use Rattle.tucson_shown.specs.Machine.{LineTold}
use Rattle.tucson_walk.proofs.NextLines.{told_stands, strict_same}
use Rattle.tucson_walk.proofs.Steps.{step_other, kept_line, behind-line, holds-line, step_data}
use Rattle.tucson_walk.proofs.step.Goals as goal

pub returns-then-not-is_data : goal.returns-then-not-is_data
returns-then-not-is_data c =
    let p = c.put_other-cells in
    let a = c.args in
    record {
      near = record { bytes_near = omega arith; lines_near = omega arith; cells_near = p.ensures.near };
      told = λ b ks w.
          step_other a.unit a.header a.early a.text.now a.from a.end a.number b ks a.t c.requires.line c.requires.more w
          (sym c.is_data.ensures ∙ c.if-not-is_data.true) p.ensures;
    }

-- a line that is kept is not refused
never : {A : Type 0} {code : ℕ} {t : Text} (place : ℕ) (raw : Text) → strict_line place raw ≡ answer t
    → strict_line place raw ≡ refuse code place → A
never place raw p q = clash cc

pub returns-in_default : goal.returns-in_default
returns-in_default c =
    let a = c.args in
    let at_data = sym c.is_data.ensures ∙ c.if-not-is_data.false in
    record {
      near = record { bytes_near = omega arith; lines_near = omega arith; cells_near = omega arith };
      told = λ b ks w.
          let k = kept_line a.unit a.header a.early a.text.now a.from a.end a.number b ks a.t c.requires.line c.requires.more w at_data in
          never a.number (slice a.from (a.end + 1) a.text.now) k.strict (c.in_default.ensures a.number);
    }

pub take_line-requires : goal.take_line-requires
take_line-requires c =
    let l = c.in-Ok.l in
    let raw = slice c.args.from (c.args.end + 1) c.args.text.now in
    let t : LineTold raw l.shown l.size l.site c.strict_line.new.bytes c.strict_line.new.line = c.in-Ok.ensures in
    record { raw = c.requires.line; more = c.requires.more; stands = told_stands t; short = t.line-short; near = c.requires.near }

pub returns : goal.returns
returns c =
    let l = c.in-Ok.l in
    let a = c.args in
    let at = c.requires.line in
    let more = c.requires.more in
    let raw = slice a.from (a.end + 1) a.text.now in
    let line = c.strict_line.new.line in
    let t : LineTold raw l.shown l.size l.site c.strict_line.new.bytes line = c.in-Ok.ensures in
    let at_data : is_data a.header a.number raw ≡ true = sym c.is_data.ensures ∙ c.if-not-is_data.false in
    record {
      near = c.take_line.ensures.near;
      told = λ b ks w.
          let g = kept_line a.unit a.header a.early a.text.now a.from a.end a.number b ks a.t at more w at_data in
          step_data a.unit a.header a.early a.text.now a.from a.end a.number b ks a.t at more w at_data
          (c.take_line.ensures.told a.header (suc a.number) b (record { line = a.number; raw = raw; text = g.text }) g.others refl refl
          (strict_same a.number raw g.text (take l.size line) g.strict (t.is_line a.number))
          (sym t.is_shown) t.is_site
          (behind-line a.unit a.header a.early a.text.now a.from a.end a.number b ks a.t at more w at_data)
          (holds-line a.unit a.header a.early a.text.now a.from a.end a.number b ks a.t at more w at_data));
    }
