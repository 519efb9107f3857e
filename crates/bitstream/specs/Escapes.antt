-- Escapes (H.266 clauses 7.3.1.1 and 7.4.2.1), and what the two calls answer and leave. 4; 5.
-- Both ways go through the bytes once and carry the number z of zero bytes that stand right before.
use Rattle.std.specs.Prelude.{ℕ, zero, suc, ◌≤◌, Bool, true, false, cond, not, ◌&&◌, List, [], ◌∷◌, ◌++◌, leb, ltb, eqb, length, drop}
use Rattle.bitstream.specs.Outcome.{Outcome, value, refused}

-- the zero bytes at the end of z zero bytes and then b
abbrev pub zero_run : ℕ → ℕ → ℕ
zero_run z zero = suc z
zero_run z (suc b) = 0

-- the zero bytes that count once an 03 was put after them
abbrev pub kept : Bool → ℕ → ℕ
kept true z = 0
kept false z = z

-- b in front where the test holds
abbrev pub cons_if : Bool → ℕ → List ℕ → List ℕ
cons_if true b l = b ∷ l
cons_if false b l = l

-- 03 between 00 00 and a byte at most 03, and after a final 00 00
unfoldable pub escape_from : ℕ → List ℕ → List ℕ
escape_from z [] = cons_if (leb 2 z) 3 []
escape_from z (b ∷ bs) = cons_if (leb 2 z && leb b 3) 3 (b ∷ escape_from (zero_run (kept (leb 2 z && leb b 3) z) b) bs)

abbrev pub escape : List ℕ → List ℕ
escape l = escape_from 0 l

-- an 03 after 00 00 is left out, whatever follows it
unfoldable pub unescape_from : ℕ → List ℕ → List ℕ
unescape_from z [] = []
unescape_from z (b ∷ bs) = cons_if (not (leb 2 z && eqb b 3)) b (unescape_from (zero_run z b) bs)

abbrev pub unescape : List ℕ → List ℕ
unescape l = unescape_from 0 l

-- ---- what is claimed of escaped bytes

-- no 00 00 00, 00 00 01 or 00 00 02 in l or across z zero bytes and l
unfoldable pub Clean : ℕ → List ℕ → Type 0
Clean z [] = Unit {0}
Clean z (b ∷ bs) = (2 ≤ z → 3 ≤ b) × Clean (zero_run z b) bs

-- the zero bytes at the end of z zero bytes and then l
unfoldable pub zeros_at_end : ℕ → List ℕ → ℕ
zeros_at_end z [] = z
zeros_at_end z (b ∷ bs) = zeros_at_end (zero_run z b) bs

-- ---- the calls

-- l at the start of out, the rest kept; 5: out is shorter than l
unfoldable pub put_bytes : List ℕ → List ℕ → Outcome (List ℕ)
put_bytes out l = cond (ltb (length out) (length l)) (refused 5) (value (l ++ drop (length l) out) (length l))

-- 4: the input is over 65,536 bytes
unfoldable pub ebsp_to_rbsp : List ℕ → List ℕ → Outcome (List ℕ)
ebsp_to_rbsp src out = cond (ltb 65536 (length src)) (refused 4) (put_bytes out (unescape src))

unfoldable pub rbsp_to_ebsp : List ℕ → List ℕ → Outcome (List ℕ)
rbsp_to_ebsp src out = cond (ltb 65536 (length src)) (refused 4) (put_bytes out (escape src))
