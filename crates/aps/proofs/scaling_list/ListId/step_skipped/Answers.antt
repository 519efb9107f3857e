-- `step_skipped`: the rule of the 64 bits is one computed test.
use borrow.Author.Tests.{lt-ltb, le-ltb}
use mathlib.Core.Path.{◌≡◌, refl, sym}
use mathlib.Core.Bool.{Bool, true, false, cond, not}
use Prim.Native.Nat.{ℕ, ◌/◌, ◌%◌, ◌^◌, ◌<◌}
use native.Mathlib.Omega.{arith}
use lib.Dec.{eqb}
use Rattle.aps.specs.ScalingSyntax.{diag_next, diag_scan, skipped}
use Rattle.aps.proofs.Below.{below-rule}
use Rattle.aps.proofs.scaling_list.ListId.step_skipped.Goals as goal

abbrev same : Bool → Bool → Bool
same a b = cond a b (not b)

same_true : (a b : Bool) → same a b ≡ true → a ≡ b
same_true true true e = refl
same_true true false e = sym e
same_true false true e = e
same_true false false e = refl

abbrev bit : ℕ → Bool
bit i = eqb (18436717077420048384 / 2 ^ i % 2) 1

rule : (i : ℕ) → i < 64 → bit i ≡ skipped 26 i
unfolding diag_next diag_scan skipped
rule i h = same_true (bit i) (skipped 26 i) (below-rule (λ k. same (bit k) (skipped 26 k)) 64 refl i h)

pub returns-then-self-gt25 : goal.returns-then-self-gt25
unfolding skipped
returns-then-self-gt25 c = rw (lt-ltb _ _ c.if-self-gt25.true) (rule (c.args.i % 64) (omega arith))

pub returns-else-self-gt25 : goal.returns-else-self-gt25
unfolding skipped
returns-else-self-gt25 c = rw (le-ltb _ _ c.if-self-gt25.false)
