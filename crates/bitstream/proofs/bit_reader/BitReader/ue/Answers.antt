-- `ue`: all zeros are those counted and those from q on; where the loop is left there are no more, and q is where the suffix begins.
use borrow.Author.Tests.{lt-ltb, le-ltb}
use Rattle.std.proofs.Common.{rules, Err}
use Prim.Native.Nat.{ℕ, suc, ◌+◌, ◌-◌, ◌*◌, ◌≤◌, ◌<◌}
use mathlib.Core.Path.{◌≡◌, ap, ◌∙◌}
use mathlib.Core.List.{List}
use native.Mathlib.Omega.{arith}
use lib.ListN.{length}
use Rattle.bitstream.specs.Bits.{bit_at}
use Rattle.bitstream.specs.Fields.{zeros_at, suffix_at, ue_value}
use Rattle.bitstream.specs.Reading.{ue_at, ue_lacking}
use Rattle.bitstream.proofs.ByteLaws.{one_shl}
use Rattle.bitstream.proofs.FieldLaws.{bit-lt, field_lt}
use Rattle.bitstream.proofs.CodeLaws.{zeros-one, zeros-past, zeros-more, ue-lt}
use Rattle.bitstream.proofs.CallLaws.{started-refused, lacking-refused, ue-given, ue-not}
use Rattle.bitstream.proofs.bit_reader.BitReader.ue.Goals as goal
use Rattle.bitstream.proofs.bit_reader.BitReader.ue.Goals.{Joined-end-q, then-end-q, else-end-q+then-b-eq1}

-- how the loop is left: z zeros in all, and the suffix begins at q
record Counted (s : List ℕ) (p q z : ℕ) : Type 0 where
  few : z < 32
  near : q ≤ p + 32
  all : zeros_at s p 32 ≡ z
  begins : q ≡ suffix_at s p z

counted : (c : Joined-end-q) → Counted c.args.bytes.now c.args.self.bit_pos c.if-end-q.q c.if-end-q.leading_zero_bits
unfolding suffix_at
counted c =
    let s = c.args.bytes.now in
    let e = c.args.self.bit_pos + c.if-end-q.leading_zero_bits in
    let l = c.loop-q in
    elim c.if-end-q.branch [
      | then-end-q w ↦ record {
        few = omega arith;
        near = omega arith;
        all = omega (arith, zeros-past s l.q (32 - l.zeros) (omega arith));
        begins = rw (le-ltb e (length s * 8) (omega arith)) (omega arith);
      }
      | else-end-q+then-b-eq1 w ↦
          let o : bit_at s l.q ≡ 1 = omega (arith, w.bit-b.ensures) in
          record {
            few = omega arith;
            near = omega arith;
            all = omega (arith, zeros-one s l.q (32 - l.zeros) o);
            begins = rw (lt-ltb e (length s * 8) (omega arith)) (omega arith);
          }
    ]

-- the bit that was read is one more zero
one_more : (s : List ℕ) (p q z : ℕ) → z < 32 → q < length s * 8 → (bit_at s q ≡ 1 → ⊥) → zeros_at s p 32 ≡ z + zeros_at s q (32 - z)
    → zeros_at s p 32 ≡ z + 1 + zeros_at s (q + 1) (32 - (z + 1))
one_more s p q z h l not i =
    let m = 32 - (z + 1) in
    let a : 32 - z ≡ suc m = omega arith in
    let b : suc q ≡ q + 1 = omega arith in
    let o : bit_at s q ≡ 0 = omega (arith, bit-lt s q, not) in
    let e : zeros_at s q (32 - z) ≡ suc (zeros_at s (q + 1) m) = ap (zeros_at s q) a ∙ zeros-more s q m l o (ap (λ (x : ℕ). zeros_at s x m) b) in
    omega (arith, e)

pub returns-in_err-place : goal.returns-in_err-place
unfolding ue_at ue_lacking
returns-in_err-place c =
    let e : c.from_residual.result ≡ Err c.in_err-place.field-0.0 = search rules in
    let r = lacking-refused _ (started-refused _ _ _ c.in_err-place.ensures.err) in
    rw e (record { field = r.0; lacking = r.1 })

pub returns-then-zeros-ge32 : goal.returns-then-zeros-ge32
returns-then-zeros-ge32 c =
    let l = c.loop-q in
    let more = one_more c.args.bytes.now c.args.self.bit_pos l.q l.zeros (omega arith) (omega arith) (omega (arith, c.bit-b.ensures)) l.invariant.2 in
    let n = c.in_ok-place.ensures.inside in
    let r = ue-not c.args.bytes.now c.args.self.bit_pos n.0 n.1 more (omega arith) in
    record { field = r.0; lacking = r.1 }

pub loop-q-preserved : goal.loop-q-preserved
loop-q-preserved c =
    let l = c.loop-q in
    omega (arith, one_more c.args.bytes.now c.args.self.bit_pos l.q l.zeros (omega arith) (omega arith) (omega (arith, c.bit-b.ensures)) l.invariant.2)

pub overflow_add-code_num : goal.overflow_add-code_num
unfolding ue_value
overflow_add-code_num c =
    let k = counted (goal.at.overflow_add-code_num c).Joined-end-q in
    let z = c.if-end-q.leading_zero_bits in
    rw (one_shl 32 z k.few) (omega (arith, ue-lt z c.bits-suffix.result k.few (rw c.bits-suffix.ensures (field_lt _ _ z))))

pub returns : goal.returns
returns c =
    let k = counted (goal.at.returns c).Joined-end-q in
    let n = c.in_ok-place.ensures in
    let r = ue-given c.args.bytes.now c.args.self.bit_pos n.inside.0 n.inside.1 k.all k.few k.begins c.bits-suffix.ensures (rw (n.ok.0, n.ok.1) at c.lacks.ensures) in
    rw (one_shl 32 c.if-end-q.leading_zero_bits k.few) (record { field = r.0; lacking = r.1 })
