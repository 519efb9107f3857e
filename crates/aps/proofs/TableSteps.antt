-- A ue at the start of a window, by the table of short codes.
use Prim.Native.Nat.{ℕ, ◌+◌, ◌*◌, ◌≤◌}
use Rattle.std.specs.Prelude.{Some}
use mathlib.Core.Path.{◌≡◌}
use mathlib.Core.List.{List}
use native.Mathlib.Omega.{arith}
use lib.ListN.{length}
use Rattle.bitstream.specs.Outcome.{value}
use Rattle.bitstream.specs.Windows.{IsWindow, code_in}
use Rattle.bitstream.proofs.WindowLaws.{Found, code-found, code-most}
use Rattle.aps.specs.Codec.{ue}
use Rattle.aps.proofs.WindowSteps.{found-ue}

module _ {s : List ℕ} {p left w : ℕ} (h : IsWindow s p left w) {v k : ℕ} (e : Some (v, k) ≡ code_in w) where
  pub table-bits : k ≤ 17
  table-bits = code-most w e

  pub table-found : Found w v k
  table-found = code-found w e

  -- one that ends inside the input
  pub table-ue : 17 ≤ left → p + k ≤ length s * 8 → ue.read s p ≡ value v (p + k)
  table-ue l i = found-ue h e (omega (arith, table-bits)) i
