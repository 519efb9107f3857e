-- The steps of lmcs_data( ), as its reader takes them.
use mathlib.Core.Path.{◌≡◌, refl}
use mathlib.Core.Bool.{Bool, true, false, ◌&&◌}
use Prim.Native.Nat.{ℕ, ◌+◌, ◌-◌, ◌≤◌}
use native.Mathlib.Omega.{arith}
use borrow.Author.Tests.{leb-true}
use lib.Dec.{leb}
use Rattle.aps.specs.Codec.{Codec, u, when}
use Rattle.aps.specs.Elements.{no_signed, signed}
use Rattle.aps.specs.LmcsSyntax.{LmcsHead, in_range, coded_from, lmcs_codewords}
use Rattle.aps.proofs.Lawful.{Lawful, total}
use Rattle.aps.proofs.FieldLaws.{u-law}
use Rattle.aps.proofs.CodecLaws.{when-law}
use Rattle.aps.proofs.EachLaws.{each-law}
use Rattle.aps.proofs.ElementLaws.{signed-law, no_signed-is, apart-law}

-- what the judgement says
pub in-range : (min max prec : ℕ) → in_range (min, (max, prec)) ≡ true → (min ≤ 15 - max) × (max ≤ 15) × (prec ≤ 14)
unfolding in_range
in-range min max prec e = go (leb min 15) (leb max 15) (leb min (15 - max)) (leb prec 14) refl refl refl refl e
  where
    go : (a b c d : Bool) → leb min 15 ≡ a → leb max 15 ≡ b → leb min (15 - max) ≡ c → leb prec 14 ≡ d → ((a && (b && c)) && d) ≡ true
        → (min ≤ 15 - max) × (max ≤ 15) × (prec ≤ 14)
    go true true true true ea eb ec ed e = (leb-true _ _ ec, leb-true _ _ eb, leb-true _ _ ed)
    go true true true false ea eb ec ed e = let z : ◌≡◌ {A = ℕ} 0 1 = cc in absurd (omega arith)
    go true true false d ea eb ec ed e = let z : ◌≡◌ {A = ℕ} 0 1 = cc in absurd (omega arith)
    go true false c d ea eb ec ed e = let z : ◌≡◌ {A = ℕ} 0 1 = cc in absurd (omega arith)
    go false b c d ea eb ec ed e = let z : ◌≡◌ {A = ℕ} 0 1 = cc in absurd (omega arith)

-- a bin as the head says
abbrev pub bin : ℕ → ℕ → ℕ → ℕ → Codec (ℕ × Bool)
bin min max prec i = when (coded_from min max i) no_signed (signed (u (prec + 1)))

-- the bins are lawful
pub codewords-law : (h : LmcsHead) → Lawful (lmcs_codewords h) (total 0 16 (λ i. h.1.1 + 1 + 1))
codewords-law h = apart-law (each-law 0 16 λ i b. when-law (coded_from h.0 h.1.0 i) no_signed-is λ c. signed-law (u-law (h.1.1 + 1)))
