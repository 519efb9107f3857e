-- `put_bits`: what is still to be written, the low `left` bits at p, makes of the bytes so far what the whole field makes of those at entry.
use native.Mathlib.Omega.{arith}
use Prim.Native.Nat.{ℕ, ◌+◌, ◌-◌, ◌/◌}
use mathlib.Core.Path.{◌≡◌, sym, ap, ◌∙◌}
use lib.ListN.{length-set}
use Rattle.bitstream.specs.Bits.{put_bits, field_bits}
use Rattle.bitstream.proofs.ByteLaws.{one_shl}
use Rattle.bitstream.proofs.WriteLaws.{put-none, put-turn}
use Rattle.bitstream.proofs.bit_writer.put_bits.Goals as goal

pub loop-left-preserved : goal.loop-left-preserved
loop-left-preserved c =
    let l = c.loop-left in
    let v = c.args.v in
    let w = c.min-c.result in
    let r = l.left - w in
    let e : w + r ≡ l.left = omega arith in (
      length-set l.out (l.p / 8) c.put_in_byte.result ∙ l.invariant.0,
      omega arith,
      omega arith,
      sym (put-turn l.out l.p v w r c.put_in_byte.result (omega arith) (omega arith) (omega arith) (rw (one_shl 64 w (omega arith)) at c.put_in_byte.ensures))
          ∙ ap (λ (k : ℕ). put_bits l.out l.p (field_bits v k)) e ∙ l.invariant.3,
    )

pub returns : goal.returns
returns c =
    let l = c.loop-left in
    sym (put-none l.out l.p c.args.v l.left (omega arith)) ∙ l.invariant.3
