-- What a call that puts the bytes l, made of src, into out answers and leaves: each way its code can end.
use Prim.Native.Nat.{ℕ, ◌≤◌, ◌<◌}
use mathlib.Core.Path.{◌≡◌}
use mathlib.Core.Bool.{true, false, cond}
use mathlib.Core.List.{List, ◌++◌}
use borrow.Author.Tests.{leb-true, leb-false, lt-ltb, le-ltb}
use lib.Dec.{leb, ltb}
use lib.ListN.{length, drop}
use Rattle.bitstream.specs.Outcome.{Outcome, value, refused, left}
use Rattle.bitstream.specs.Escapes.{put_bytes}

module _ (src out l : List ℕ) where
  abbrev call : Outcome (List ℕ)
  call = cond (ltb 65536 (length src)) (refused 4) (put_bytes out l)

  -- 4, and out as it was
  pub call-too-long : 65536 < length src → (refused 4 ≡ call) × (out ≡ left out call)
  call-too-long h = let e = lt-ltb 65536 (length src) h in (rw e, rw e)

  module _ (h : length src ≤ 65536) where
    -- 5, and out as it was
    pub call-too-short : leb (length l) (length out) ≡ false → (refused 5 ≡ call) × (out ≡ left out call)
    unfolding put_bytes
    call-too-short f =
        let e = le-ltb 65536 (length src) h in
        let s = lt-ltb (length out) (length l) (leb-false (length l) (length out) f) in
        (rw (e, s), rw (e, s))

    -- the bytes written, and the rest of out as it was
    pub call-written : (n : ℕ) (after : List ℕ) → leb (length l) (length out) ≡ true → (n ≡ length l) × (after ≡ l ++ drop (length l) out)
        → (value after n ≡ call) × (after ≡ left out call)
    unfolding put_bytes
    call-written n after f w =
        let e = le-ltb 65536 (length src) h in
        let s = le-ltb (length out) (length l) (leb-true (length l) (length out) f) in
        (rw (e, s, w.0, w.1), rw (e, s) w.1)
