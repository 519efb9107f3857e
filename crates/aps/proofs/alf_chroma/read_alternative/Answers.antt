-- `read_alternative`: six coefficients, and at once six clips.
use mathlib.Core.Path.{◌≡◌, ap}
use mathlib.Core.List.{List}
use Prim.Native.Nat.{ℕ}
use lib.ListN.{length}
use Rattle.aps.specs.AlfSyntax.{alternative}
use Rattle.aps.proofs.AlternativeSteps.{six-coefficients, row-of-clips}
use Rattle.aps.proofs.ReaderLaws.{fills-exit, reads-▷, reads-▷-first, reads-pairs}
use Rattle.aps.proofs.alf_chroma.read_alternative.Goals as goal

pub returns-in_err-read_coefficients : goal.returns-in_err-read_coefficients
unfolding alternative
returns-in_err-read_coefficients c =
    let n : length c.args.abs.now ≡ 6 = ap (λ (l : List ℕ). length l) c.requires.0 in
    fills-exit _ _ _ _ c.from_residual.ensures.1 (reads-▷-first _ (rw six-coefficients at (reads-pairs _ (rw n at c.in_err-read_coefficients.ensures))))

pub returns-in_err-read_clips : goal.returns-in_err-read_clips
unfolding alternative
returns-in_err-read_clips c =
    let n : length c.args.abs.now ≡ 6 = ap (λ (l : List ℕ). length l) c.requires.0 in
    let m : length c.args.clips.now ≡ 6 = ap (λ (l : List ℕ). length l) c.requires.2 in
    let r = rw six-coefficients at (reads-pairs _ (rw n at c.in_ok-read_coefficients.ensures)) in
    let s = rw (m, row-of-clips c.args.clip _ c.clips_sent.ensures.0) at c.in_err-read_clips.ensures in
    fills-exit _ _ _ _ c.from_residual-in_err-read_clips.ensures.1 (reads-▷ _ r s)

pub returns : goal.returns
unfolding alternative
returns c =
    let n : length c.args.abs.now ≡ 6 = ap (λ (l : List ℕ). length l) c.requires.0 in
    let m : length c.args.clips.now ≡ 6 = ap (λ (l : List ℕ). length l) c.requires.2 in
    let r = rw six-coefficients at (reads-pairs _ (rw n at c.in_ok-read_coefficients.ensures)) in
    let s = rw (m, row-of-clips c.args.clip _ c.clips_sent.ensures.0) at c.in_ok-read_clips.ensures in
    reads-▷ _ r s
