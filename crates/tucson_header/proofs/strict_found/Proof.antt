-- The line that was found stays; else this line is tested.
use mathlib.Core.Path.{sym, ◌∙◌}
use Prim.Native.Nat.{◌+◌}
use lib.Seq.{slice}
use Rattle.spec_tucson.specs.Shown.{is_blank_line}
use Rattle.spec_tucson.specs.KeptLines.{reads_strictly}
use Rattle.tucson_lines.proofs.Found.{line_kept}
use Rattle.tucson_header.proofs.HeaderLines.{found-blank, found_strict, found_other}
use Rattle.tucson_header.proofs.strict_found.Statement.{statement}
use Rattle.tucson_header.proofs.strict_found.Tie as tie

returns : tie.Need-returns-then-found-ne0
returns c = line_kept c.args.found _ c.if-found-ne0.true

returns-2 : tie.Need-returns-then-is_blank_line
returns-2 c =
    let e = c in
    let a = e.args in
    let blank = sym c.is_blank_line.ensures ∙ c.if-is_blank_line.true in
    let raw = slice a.from (a.end + 1) a.body.now in
    found-blank a.found a.number e.if-found-ne0.false (is_blank_line raw) (reads_strictly raw) blank

returns-3 : tie.Need-returns-then-reads_strictly
returns-3 c =
    let b = c in
    let e = b in
    let s = e in
    found_strict s.args.found s.args.number e.if-found-ne0.false _ _ s.requires.from_one (sym b.is_blank_line.ensures ∙ b.if-is_blank_line.false)
    (sym c.reads_strictly.ensures ∙ c.if-reads_strictly.true)

returns-4 : tie.Need-returns
returns-4 c =
    let b = c in
    let e = b in
    let s = e in
    found_other s.args.found s.args.number e.if-found-ne0.false _ _ (sym b.is_blank_line.ensures ∙ b.if-is_blank_line.false)
    (sym c.reads_strictly.ensures ∙ c.if-reads_strictly.false)

pub strict_found_spec : {M : Type 1} → statement M
strict_found_spec = tie.close (tie.spec returns (λ c κs. c.requires.at) returns-2 (λ c κs. c.requires.at) returns-3 returns-4)
