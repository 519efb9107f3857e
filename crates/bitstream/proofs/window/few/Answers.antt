-- `few`: a byte more in each turn, and after the last the zeros past the end.
use Rattle.std.proofs.Common.{◌≡◌, ◌+◌, ◌*◌, ◌-◌, ◌≤◌, ◌<◌, ◌^◌, ℕ, List, length, get_or, take, drop, refl, ◌∙◌, sym}
use native.Mathlib.Omega.{arith}
use lib.Pow.{pow_mono, shl_exact}
use lib.Seq.{get_or-take, get_or-drop}
use Rattle.bitstream.specs.Bits.{field_at}
use Rattle.bitstream.proofs.FieldLaws.{field_lt, field-none, field-grow, field_end}
use Rattle.bitstream.proofs.window.few.Goals as goal

module _ (c : goal.After-row_known-1) where
  abbrev s : List ℕ
  s = c.args.bytes.now

  abbrev i : ℕ
  i = c.args.i

  abbrev k : ℕ
  k = c.loop-b.b-index

  -- six bytes before it leave room for one more
  small : c.loop-b.w < 281474976710656
  small = let h : k * 8 ≤ 48 = omega arith in omega (arith, field_lt s (i * 8) (k * 8), c.loop-b.invariant, pow_mono h)

  -- the turn's byte
  byte : get_or (take (length s - i) (drop i s)) k 0 ≡ get_or s (i + k) 0
  byte = get_or-take (length s - i) (drop i s) k 0 (omega arith) ∙ get_or-drop i s k 0

pub loop-b-init : goal.loop-b-init
loop-b-init c = sym (field-none c.args.bytes.now (c.args.i * 8))

pub overflow_mul-w : goal.overflow_mul-w
overflow_mul-w c = omega (arith, small c)

pub overflow_add-w : goal.overflow_add-w
overflow_add-w c = rw (byte c) (omega (arith, small c, c.type_inv.bytes (c.args.i + c.loop-b.b-index)))

pub loop-b-preserved : goal.loop-b-preserved
loop-b-preserved c =
    let i = c.args.i in
    let k = c.loop-b.b-index in
    let e : k * 8 + 8 ≡ (k + 1) * 8 = omega arith in
    rw (byte c) (sym (rw e at (field-grow c.args.bytes.now i k _ _ (sym c.loop-b.invariant) (refl, omega (arith, c.type_inv.bytes (i + k))))))

pub returns : goal.returns
returns c =
    let s = c.args.bytes.now in
    let i = c.args.i in
    let n = length s - i in
    let k : c.loop-b.b-index ≡ n = omega arith in
    let e : n * 8 + (64 - n * 8) ≡ 64 = omega arith in
    let w : c.loop-b.w ≡ field_at s (i * 8) (n * 8) = rw k at c.loop-b.invariant in
    let x : field_at s (i * 8) 64 ≡ field_at s (i * 8) (n * 8) * 2 ^ (64 - n * 8) = rw e at (field_end s (i * 8) (n * 8) (64 - n * 8) (omega arith)) in
    shl_exact (n * 8) (64 - n * 8) 64 (rw w (field_lt s (i * 8) (n * 8))) (omega arith) ∙ rw w (sym x)
