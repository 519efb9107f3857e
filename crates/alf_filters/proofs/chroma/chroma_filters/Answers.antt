-- `chroma_filters`: what `judge` refuses, and else the rows, which a set that fits bounds.
use mathlib.Core.Path.{◌≡◌, sym, ◌∙◌}
use Rattle.std.proofs.Common.{rules, Err}
use Rattle.alf_filters.specs.Answers.{chroma_filters}
use Rattle.alf_filters.proofs.AskLaws.{asked-refused, asked-passed, asked-given, depth-within}
use Rattle.alf_filters.proofs.FitLaws.{fit-chroma}
use Rattle.alf_filters.proofs.chroma.chroma_filters.Goals as goal

pub returns-in_err-judge : goal.returns-in_err-judge
unfolding chroma_filters
returns-in_err-judge c =
    let e : c.from_residual.result ≡ Err c.in_err-judge.field-0.0 = search rules in
    rw e (asked-refused _ _ _ _ _ _ (rw c.is_depth.ensures at c.in_err-judge.ensures))

pub chroma_rows-requires : goal.chroma_rows-requires
chroma_rows-requires c =
    let p = asked-passed _ _ _ _ c.in_ok-judge.ensures in
    let w = depth-within c.args.depth (sym c.is_depth.ensures ∙ p.1) in
    (fit-chroma _ p.0 p.2, w.0, w.1)

pub returns : goal.returns
unfolding chroma_filters
returns c =
    let p = asked-passed _ _ _ _ c.in_ok-judge.ensures in
    rw c.chroma_rows.ensures (asked-given _ _ _ _ _ p.0 (sym c.is_depth.ensures ∙ p.1) p.2)
