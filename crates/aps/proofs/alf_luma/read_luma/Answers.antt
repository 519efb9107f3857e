-- `read_luma`: the head, then the three parts that it announces one after another.
use mathlib.Core.Path.{◌≡◌, refl, ap}
use mathlib.Core.List.{List}
use Prim.Native.Nat.{ℕ}
use native.Mathlib.Omega.{arith}
use lib.ListN.{length}
use Rattle.aps.specs.AlfSyntax.{luma_syntax, to_luma}
use Rattle.aps.proofs.AlfSteps.{blank-luma, luma-sent, luma-unsent, luma-coefficients, luma-clips}
use Rattle.aps.proofs.ReaderLaws.{reads-▷, reads-▷-first, reads-most, fills-exit}
use Rattle.aps.proofs.alf_luma.read_luma.Goals as goal

pub returns-then-not-signal : goal.returns-then-not-signal
returns-then-not-signal c = luma-unsent c.if-not-signal.true c.requires

pub returns-in_err-clip : goal.returns-in_err-clip
unfolding luma_syntax
returns-in_err-clip c = fills-exit _ _ _ _ c.from_residual.ensures.1 (luma-sent c.if-not-signal.false (reads-▷-first _ c.in_err-clip.ensures))

pub returns-in_err-count_minus1 : goal.returns-in_err-count_minus1
unfolding luma_syntax
returns-in_err-count_minus1 c =
    fills-exit _ _ _ _ c.from_residual-in_err-count_minus1.ensures.1
    (luma-sent c.if-not-signal.false (reads-▷ _ c.in_ok-clip.ensures (reads-▷-first _ c.in_err-count_minus1.ensures)))

pub read_indexes-requires : goal.read_indexes-requires
read_indexes-requires c = (reads-most 24 c.in_ok-count_minus1.ensures, (blank-luma c.requires).0)

pub returns-in_err-read_indexes : goal.returns-in_err-read_indexes
unfolding luma_syntax
returns-in_err-read_indexes c =
    fills-exit _ _ _ _ c.from_residual-in_err-read_indexes.ensures.1
    (luma-sent c.if-not-signal.false (reads-▷ _ c.in_ok-clip.ensures (reads-▷ _ c.in_ok-count_minus1.ensures (reads-▷-first _ c.in_err-read_indexes.ensures))))

pub read_coefficients-requires : goal.read_coefficients-requires
read_coefficients-requires c =
    let (i, a, s, k) = blank-luma c.requires in
    rw (a, s) (omega (arith, reads-most 24 c.in_ok-count_minus1.ensures), refl, refl)

pub returns-in_err-read_coefficients : goal.returns-in_err-read_coefficients
unfolding luma_syntax
returns-in_err-read_coefficients c =
    let n : length c.args.filters.now.coeff_abs ≡ 300 = ap (λ (l : List ℕ). length l) (blank-luma c.requires).1 in
    let r = rw (n, luma-coefficients c.in_ok-count_minus1.count_minus1) at c.in_err-read_coefficients.ensures in
    fills-exit _ _ _ _ c.from_residual-in_err-read_coefficients.ensures.1
    (luma-sent c.if-not-signal.false (reads-▷ _ c.in_ok-clip.ensures (reads-▷ _ c.in_ok-count_minus1.ensures (reads-▷ _ c.in_ok-read_indexes.ensures (reads-▷-first _ r)))))

pub read_clips-requires : goal.read_clips-requires
read_clips-requires c =
    let (i, a, s, k) = blank-luma c.requires in
    let w = c.clips_sent-rows.ensures.1 in
    let most = reads-most 24 c.in_ok-count_minus1.ensures in
    rw k (omega (arith, most, w), omega (arith, most, w), refl)

pub returns-in_err-read_clips : goal.returns-in_err-read_clips
unfolding luma_syntax
returns-in_err-read_clips c =
    let n : length c.args.filters.now.coeff_abs ≡ 300 = ap (λ (l : List ℕ). length l) (blank-luma c.requires).1 in
    let m : length c.args.filters.now.clip_idx ≡ 300 = ap (λ (l : List ℕ). length l) (blank-luma c.requires).3 in
    let r = rw (n, luma-coefficients c.in_ok-count_minus1.count_minus1) at c.in_ok-read_coefficients.ensures in
    let s = rw (m, luma-clips c.in_ok-count_minus1.count_minus1 _ _ c.clips_sent-rows.ensures.0) at c.in_err-read_clips.ensures in
    fills-exit _ _ _ _ c.from_residual-in_err-read_clips.ensures.1
    (luma-sent c.if-not-signal.false (reads-▷ _ c.in_ok-clip.ensures (reads-▷ _ c.in_ok-count_minus1.ensures (reads-▷ _ c.in_ok-read_indexes.ensures (reads-▷ _ r s)))))

pub returns : goal.returns
unfolding luma_syntax to_luma
returns c =
    let n : length c.args.filters.now.coeff_abs ≡ 300 = ap (λ (l : List ℕ). length l) (blank-luma c.requires).1 in
    let m : length c.args.filters.now.clip_idx ≡ 300 = ap (λ (l : List ℕ). length l) (blank-luma c.requires).3 in
    let r = rw (n, luma-coefficients c.in_ok-count_minus1.count_minus1) at c.in_ok-read_coefficients.ensures in
    let s = rw (m, luma-clips c.in_ok-count_minus1.count_minus1 _ _ c.clips_sent-rows.ensures.0) at c.in_ok-read_clips.ensures in
    luma-sent c.if-not-signal.false (reads-▷ _ c.in_ok-clip.ensures (reads-▷ _ c.in_ok-count_minus1.ensures (reads-▷ _ c.in_ok-read_indexes.ensures (reads-▷ _ r s))))
