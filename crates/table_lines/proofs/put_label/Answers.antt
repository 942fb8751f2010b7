-- Bytes copied into a part of the buffer are a text written from the part's start on.
use Rattle.std.proofs.Common.{◌≡◌, ℕ, ◌+◌, ◌-◌, ◌≤◌, List, ◌++◌, length, take, drop, sym, ap, ap₂, ◌∙◌, arith}
use mathlib.Core.List.{append_assoc}
use lib.ListN.{length-append}
use lib.Seq.{length-take-le, drop-drop}
use borrow.Rule.Slice.PartMut.{put_mid}
use Rattle.std.proofs.lemmas.List.{take-append-drop}
use Rattle.base_print.specs.Buffer.{written}
use Rattle.base_print.proofs.Buffer.{written_append}
use Rattle.tucson_putting.proofs.Wrote.{written-whole}
use Rattle.table_lines.proofs.put_label.Goals as goal

-- what lies before it is written as it is
copied : (at : ℕ) (t out : List ℕ) → at + length t ≤ length out → take at out ++ (t ++ drop (length t) (drop at out)) ≡ written at t out
copied at t out h =
    let a = take at out in
    let long : length a ≡ at = length-take-le at out (omega arith) in
    let both : length (a ++ t) ≡ at + length t = length-append a t ∙ omega arith in
    let same : written 0 a out ≡ out =
    written-whole a out (omega arith) ∙ ap (λ (n : ℕ). a ++ drop n out) long ∙ take-append-drop at out in
    let whole : written at t out ≡ (a ++ t) ++ drop (length (a ++ t)) out =
    ap (λ (n : ℕ). written n t out) (let e : at ≡ 0 + length a = omega arith in e)
    ∙ ap (written (0 + length a) t) (sym same)
    ∙ written_append 0 a t out
    ∙ written-whole (a ++ t) out (omega arith) in
    ap (λ (u : List ℕ). a ++ (t ++ u)) (drop-drop (length t) at out ∙ ap (λ (n : ℕ). drop n out) (sym both))
    ∙ sym (append_assoc a t (drop (length (a ++ t)) out))
    ∙ sym whole

pub returns : goal.returns
returns c =
    let at = c.args.at in
    let label = c.args.label.now in
    let out = c.args.out.now in
    let long : at + length label - at ≡ length label = omega arith in
    record {
      contents =
          ap₂ (λ (n : ℕ) (u : List ℕ). put_mid at n out u) long c.copy_from_slice.ensures.after
          ∙ copied at label out c.requires;
      behind = omega arith;
    }
