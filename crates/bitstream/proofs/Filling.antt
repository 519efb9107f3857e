-- An output that is filled from the front, byte by byte: what is written, what is still due, and the rest as it was.
use mathlib.Core.Path.{◌≡◌, refl, sym, ap, ◌∙◌}
use mathlib.Core.Bool.{Bool, true, false, cond}
use mathlib.Core.List.{List, [], ◌∷◌, ◌++◌, append_assoc, append-nil}
use Prim.Native.Nat.{ℕ, suc, ◌+◌, ◌≤◌, ◌<◌}
use native.Mathlib.Numerals.{add-one}
use native.Mathlib.Omega.{arith}
use lib.ListN.{length, take, drop, set, length-set, length-append, take-append-drop}
use lib.Seq.{length-take-le, take-suc-set, drop-set-lt, drop-drop}
use mir.Val.{bool_byte}
use Rattle.bitstream.specs.Escapes.{cons_if}

-- of out₀, now out, the first o bytes are written, rest is due, and the two make whole
pub record Filling (out₀ out : List ℕ) (o : ℕ) (rest whole : List ℕ) : Type 0 where
  pub same : length out ≡ length out₀
  pub at : o ≤ length out
  pub sofar : take o out ++ rest ≡ whole
  pub keeps : drop o out ≡ drop o out₀

pub start : (out whole : List ℕ) → Filling out out 0 whole whole
start out whole = record { same = refl; at = omega arith; sofar = refl; keeps = refl }

pub due : {out₀ out : List ℕ} {o : ℕ} {rest whole : List ℕ} → Filling out₀ out o rest whole → o + length rest ≡ length whole
due {out} {o} {rest} f = omega (arith, length-append (take o out) rest, ap length f.sofar, length-take-le o out f.at)

-- one byte is due and there is room for the whole: room for the byte
pub room : {out₀ out : List ℕ} {o b : ℕ} {rest whole : List ℕ} → Filling out₀ out o (b ∷ rest) whole → length whole ≤ length out₀ → o < length out
room f h = omega (arith, due f, f.same)

-- the byte is written
pub step : {out₀ out : List ℕ} {o b : ℕ} {rest whole : List ℕ} → Filling out₀ out o (b ∷ rest) whole → length whole ≤ length out₀
    → Filling out₀ (set out o b) (o + 1) rest whole
step {out₀} {out} {o} {b} {rest} f h =
    let l : o < length out = room f h in
    record {
      same = length-set out o b ∙ f.same;
      at = omega (arith, length-set out o b);
      sofar = rw (add-one, take-suc-set out o b l, append_assoc) f.sofar;
      keeps = rw (add-one, drop-set-lt (suc o) out o b (omega arith)) (sym (drop-one out) ∙ ap (drop 1) f.keeps ∙ drop-one out₀);
    }
  where
    drop-one : (l : List ℕ) → drop 1 (drop o l) ≡ drop (suc o) l
    drop-one l = drop-drop 1 o l ∙ rw add-one

-- a byte is due where the test holds
pub step-if : (t : Bool) (b : ℕ) (rest : List ℕ) {out₀ out : List ℕ} {o : ℕ} {whole : List ℕ} → Filling out₀ out o (cons_if t b rest) whole → length whole ≤ length out₀
    → Filling out₀ (cond t (set out o b) out) (cond t (o + 1) o) rest whole
step-if true b rest f h = step f h
step-if false b rest f h = f

pub room-if : (t : Bool) (b : ℕ) (rest : List ℕ) {out₀ out : List ℕ} {o : ℕ} {whole : List ℕ} → Filling out₀ out o (cons_if t b rest) whole → length whole ≤ length out₀
    → t ≡ true → o < length out
room-if true b rest f h e = room f h
room-if false b rest f h e = absurd (let z : ◌≡◌ {A = ℕ} 0 1 = cc in omega arith)

-- nothing is due any more
pub finish : {out₀ out : List ℕ} {o : ℕ} {whole : List ℕ} → Filling out₀ out o [] whole → (o ≡ length whole) × (out ≡ whole ++ drop (length whole) out₀)
finish {out₀} {out} {o} {whole} f =
    let e : o ≡ length whole = omega (arith, due f) in
    (e, sym (take-append-drop o out) ∙ ap (λ (l : List ℕ). l ++ drop o out) (sym (append-nil (take o out)) ∙ f.sofar) ∙ ap (λ (l : List ℕ). whole ++ l) (f.keeps ∙ ap (λ (n : ℕ). drop n out₀) e))

-- the same for a count
pub count-step : (t : Bool) (b n : ℕ) (l : List ℕ) → n + bool_byte t + length l ≡ n + length (cons_if t b l)
count-step true b n l = omega arith
count-step false b n l = omega arith
