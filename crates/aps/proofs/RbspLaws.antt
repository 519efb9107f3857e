-- Round trips at this level: an RBSP that is read is written as it was, and a set that is written is read back.
use mathlib.Core.Path.{◌≡◌, refl, sym, ap, ◌∙◌}
use mathlib.Core.Bool.{Bool, true, false, cond}
use mathlib.Core.List.{List, ◌++◌}
use Prim.Native.Nat.{ℕ, zero, suc, ◌+◌, ◌*◌, ◌-◌, ◌/◌, ◌%◌, ◌^◌, ◌≤◌, ◌<◌}
use native.Mathlib.Nat.{zero-add, zero-div}
use native.Mathlib.Omega.{arith}
use lib.ListN.{length, get_or, take, length-append}
use Rattle.bitstream.specs.Outcome.{Outcome, value, refused, ◌then◌}
use Rattle.bitstream.specs.Bits.{bit_at, Holds, AreBits}
use Rattle.bitstream.specs.Fields.{read_trailing, trailing_bits}
use Rattle.bitstream.proofs.CodeLaws.{value-refused}
use Rattle.bitstream.proofs.WriteLaws.{length-trailing}
use Rattle.bitstream.proofs.KeepLaws.{Bytes}
use Rattle.bitstream.proofs.HoldLaws.{bits-append, bits-trailing, holds-append, holds-join, holds-first, holds_same}
use Rattle.bitstream.proofs.RoundTrip.{trailing-holds, trailing_exact}
use Rattle.bitstream.proofs.LocalLaws.{same-append}
use Rattle.bitstream.proofs.PackLaws.{length-pack}
use Rattle.aps.specs.Kinds.{largest_id, most_bytes}
use Rattle.aps.specs.ApsSyntax.{number_of, aps, inferred}
use Rattle.aps.specs.Rbsp.{closed, read_rbsp, rbsp_bits, rbsp_bytes}
use Rattle.aps.specs.declared.aps.ApsKind.{ApsKind}
use Rattle.aps.specs.declared.aps.VvcAps.{VvcAps}
use Rattle.aps.proofs.CodecLaws.{then-value, holds-inside}
use Rattle.aps.proofs.ApsLaws.{payload_bits, aps-sound, aps-exact, aps-back, aps-bits, aps-most, aps-id, inferred-flag}
use Rattle.aps.proofs.PackLaws.{pack-holds, pack-is}

-- ---- how a set is closed

module _ (s : List ℕ) where
  -- with extension flag 1 where the flag ends
  pub closed-extended : (a : VvcAps) (r : ℕ) → a.aps_extension_flag ≡ true → closed s a r ≡ value a r
  unfolding closed
  closed-extended a r x = ap (λ (b : Bool). cond b (value a r) (read_trailing s r then λ e q. value a q)) x

  -- with extension flag 0 at the end of the trailing bits
  pub closed-plain : (a : VvcAps) (r : ℕ) → a.aps_extension_flag ≡ false → closed s a r ≡ (read_trailing s r then λ e q. value a q)
  unfolding closed
  closed-plain a r x = ap (λ (b : Bool). cond b (value a r) (read_trailing s r then λ e q. value a q)) x

  -- the set that is closed is the one answered
  closed_same : (a a' : VvcAps) (r q : ℕ) → closed s a' r ≡ value a q → a' ≡ a
  unfolding closed
  closed_same a a' r q = go a'.aps_extension_flag (read_trailing s r)
    where
      go : (b : Bool) (o : Outcome (Unit {0})) → cond b (value a' r) (o then λ e q. value a' q) ≡ value a q → a' ≡ a
      go true o e = cc
      go false (value u t) e = cc
      go false (refused n) e = absurd (value-refused (sym e))

  -- the set, and then its end
  rbsp-value : (a : VvcAps) (q : ℕ) → read_rbsp s ≡ value a q → (r : ℕ) × (aps.read s 0 ≡ value a r) × (closed s a r ≡ value a q)
  unfolding read_rbsp
  rbsp-value a q e =
      let (a', r, ea, ec) = then-value (aps.read s 0) (λ a q. closed s a q) e in
      let w : a' ≡ a = closed_same a a' r q ec in
      (r, ea ∙ ap (λ (b : VvcAps). value b r) w, rw w at ec)

  -- with extension flag 1 the set is all that is read
  pub rbsp-extended : (a : VvcAps) (q : ℕ) → read_rbsp s ≡ value a q → a.aps_extension_flag ≡ true → aps.read s 0 ≡ value a q
  rbsp-extended a q e x =
      let (r, ea, ec) = rbsp-value a q e in
      ea ∙ sym (closed-extended a r x) ∙ ec

  -- with extension flag 0 the trailing bits follow it
  pub rbsp-plain : (a : VvcAps) (q : ℕ) → read_rbsp s ≡ value a q → a.aps_extension_flag ≡ false
      → (r : ℕ) × (aps.read s 0 ≡ value a r) × (read_trailing s r ≡ value tt q)
  rbsp-plain a q e x =
      let (r, ea, ec) = rbsp-value a q e in
      let (t, n, et, e₂) = then-value (read_trailing s r) (λ e q. value a q) (sym (closed-plain a r x) ∙ ec) in
      let en : n ≡ q = cc in
      (r, ea, et ∙ ap (value tt) en)

  -- a set that is read is one that the writer takes, with nothing but inferred values where nothing is sent
  pub rbsp-sound : (a : VvcAps) (q : ℕ) → read_rbsp s ≡ value a q → (aps.ok a ≡ true) × (inferred a ≡ a)
  rbsp-sound a q e =
      let (r, ea, ec) = rbsp-value a q e in
      aps-sound s 0 a r ea

  -- a set that is read has an id of its kind
  pub rbsp-id : (a : VvcAps) (q : ℕ) → read_rbsp s ≡ value a q → a.aps_adaptation_parameter_set_id ≤ largest_id (number_of a.kind)
  rbsp-id a q e = aps-id a (rbsp-sound a q e).0

  -- the set, closed
  rbsp-of : (a : VvcAps) (n : ℕ) → aps.read s 0 ≡ value a n → read_rbsp s ≡ closed s a n
  unfolding read_rbsp
  rbsp-of a n e = rw e

-- ---- the bits that a set is read from

-- with extension flag 0 the trailing bits too
unfoldable pub set_bits : VvcAps → List ℕ
set_bits a = cond a.aps_extension_flag (aps.emit a) (rbsp_bits a)

module _ (a : VvcAps) where
  bits-extended : a.aps_extension_flag ≡ true → set_bits a ≡ aps.emit a
  unfolding set_bits
  bits-extended x = ap (λ (b : Bool). cond b (aps.emit a) (rbsp_bits a)) x

  bits-plain : a.aps_extension_flag ≡ false → set_bits a ≡ rbsp_bits a
  unfolding set_bits
  bits-plain x = ap (λ (b : Bool). cond b (aps.emit a) (rbsp_bits a)) x

  -- the trailing bits fill the last byte
  pub length-rbsp : length (rbsp_bits a) ≡ length (aps.emit a) + (8 - length (aps.emit a) % 8)
  unfolding rbsp_bits
  length-rbsp =
      let n = length (aps.emit a) in
      length-append (aps.emit a) (trailing_bits n) ∙ ap (λ (k : ℕ). n + k) (length-trailing n)

  pub bits-rbsp : aps.ok a ≡ true → AreBits (rbsp_bits a)
  unfolding rbsp_bits
  bits-rbsp o = bits-append (aps.emit a) (trailing_bits (length (aps.emit a))) (aps-bits a o) (bits-trailing (length (aps.emit a)))

module _ (s : List ℕ) (a : VvcAps) where
  plain-stands : (q r : ℕ) → aps.read s 0 ≡ value a r → read_trailing s r ≡ value tt q → Holds s 0 (rbsp_bits a) × (q ≡ length (rbsp_bits a))
  unfolding rbsp_bits
  plain-stands q r ea et =
      let l = length (aps.emit a) in
      let (h, n) = aps-exact s 0 a r ea in
      let (k, m) = trailing_exact s r (sym et) in
      let z : 0 + l ≡ l = zero-add l in
      let f : r ≡ l = n ∙ z in
      (holds-join s 0 (aps.emit a) (trailing_bits l) h (rw z (rw f at k)), (rw f at m) ∙ sym (length-append (aps.emit a) (trailing_bits l)))

  -- what is read of a set stands at the start of the input as it is written, and reading ends after it
  pub read-stands : (q : ℕ) → read_rbsp s ≡ value a q → Holds s 0 (set_bits a) × (q ≡ length (set_bits a))
  read-stands q e = go a.aps_extension_flag refl
    where
      go : (b : Bool) → a.aps_extension_flag ≡ b → Holds s 0 (set_bits a) × (q ≡ length (set_bits a))
      go true x =
          let (h, n) = aps-exact s 0 a q (rbsp-extended s a q e x) in
          rw (bits-extended a x) (h, n ∙ zero-add _)
      go false x =
          let (r, ea, et) = rbsp-plain s a q e x in
          rw (bits-plain a x) (plain-stands q r ea et)

  -- a set that the writer takes is read where it stands, with what is not sent as it is inferred
  pub stands_read : aps.ok a ≡ true → Holds s 0 (set_bits a) → read_rbsp s ≡ value (inferred a) (length (set_bits a))
  unfolding rbsp_bits
  stands_read o h = go a.aps_extension_flag refl
    where
      n : ℕ
      n = length (aps.emit a)

      set : Holds s 0 (aps.emit a) → read_rbsp s ≡ closed s (inferred a) n
      set k = rbsp-of s (inferred a) n (aps-back s 0 a o k ∙ rw (zero-add n))

      go : (b : Bool) → a.aps_extension_flag ≡ b → read_rbsp s ≡ value (inferred a) (length (set_bits a))
      go true x =
          let e = bits-extended a x in
          set (rw e at h) ∙ closed-extended s (inferred a) n (inferred-flag a ∙ x) ∙ rw e
      go false x =
          let e = bits-plain a x in
          let (k, l) = holds-append s 0 (aps.emit a) (trailing_bits n) (rw e at h) in
          let t = trailing-holds s n (rw (zero-add n) at l) in
          set k ∙ closed-plain s (inferred a) n (inferred-flag a ∙ x) ∙ rw (t, e, length-append (aps.emit a) (trailing_bits n))

-- ---- its bytes

module _ (s : List ℕ) (a : VvcAps) (q : ℕ) (e : read_rbsp s ≡ value a q) where
  -- reading ends inside the input
  pub rbsp-end : q ≤ length s * 8
  rbsp-end =
      let (h, n) = read-stands s a q e in
      omega (arith, holds-inside s 0 (set_bits a) h (omega arith))

  -- read, then written: the bytes that were read
  pub read-write : a.aps_extension_flag ≡ false → Bytes s → rbsp_bytes a ≡ take (q / 8) s
  unfolding rbsp_bytes
  read-write x y =
      let (h, n) = read-stands s a q e in
      let f = bits-plain a x in
      pack-is (rbsp_bits a) (bits-rbsp a (rbsp-sound s a q e).0) s (q / 8) y (rw f at h) (omega (arith, rw f at n, length-rbsp a)) (omega (arith, rbsp-end))

-- no fewer bytes than a set of each kind can take by its syntax
abbrev pub most_sent : ℕ → ℕ
most_sent zero = 832
most_sent (suc zero) = 37
most_sent (suc (suc k)) = 2931

most-sent : (k : ApsKind) (n m : ℕ) → n ≤ 10 + payload_bits (number_of k) → m ≤ n + (8 - n % 8) → m ≤ 8 * most_sent (number_of k)
most-sent ApsKind.Alf n m h l = omega arith
most-sent ApsKind.Lmcs n m h l = omega arith
most-sent ApsKind.Scaling n m h l = omega arith

-- those of an RBSP that is not too long
most-of : (k : ApsKind) (m : ℕ) → m ≤ 8 * most_sent (number_of k) → m ≤ 8 * 2048 → m ≤ 8 * most_bytes (number_of k)
most-of ApsKind.Alf m h l = h
most-of ApsKind.Lmcs m h l = h
most-of ApsKind.Scaling m h l = l

-- a set that is read ends within the most bytes of its kind
pub read-most : (s : List ℕ) (a : VvcAps) (q : ℕ) → read_rbsp s ≡ value a q → length s ≤ 2048 → q ≤ 8 * most_bytes (number_of a.kind)
read-most s a q e l =
    most-of a.kind q (most-sent a.kind (length (aps.emit a)) q (aps-most a (rbsp-sound s a q e).0) (go a.aps_extension_flag refl)) (omega (arith, rbsp-end s a q e, l))
  where
    go : (b : Bool) → a.aps_extension_flag ≡ b → q ≤ length (aps.emit a) + (8 - length (aps.emit a) % 8)
    go true x = omega (arith, (read-stands s a q e).1, ap length (bits-extended a x))
    go false x = omega (arith, (read-stands s a q e).1, ap length (bits-plain a x), length-rbsp a)

module _ (a : VvcAps) (o : aps.ok a ≡ true) where
  length-bytes : length (rbsp_bytes a) * 8 ≡ length (rbsp_bits a)
  unfolding rbsp_bytes
  length-bytes = omega (arith, length-pack (rbsp_bits a), length-rbsp a)

  bytes-hold : Holds (rbsp_bytes a) 0 (rbsp_bits a)
  unfolding rbsp_bytes
  bytes-hold = pack-holds (rbsp_bits a) (bits-rbsp a o)

  -- written, then read, whatever follows: the same set, with what is not sent as it is inferred
  pub write_read : a.aps_extension_flag ≡ false → (t : List ℕ) → read_rbsp (rbsp_bytes a ++ t) ≡ value (inferred a) (8 * length (rbsp_bytes a))
  write_read x t =
      let s = rbsp_bytes a in
      let f = bits-plain a x in
      let l : length (set_bits a) ≡ 8 * length s = ap length f ∙ omega (arith, length-bytes) in
      let h : Holds (s ++ t) 0 (rbsp_bits a)
      = holds_same s (s ++ t) 0 (rbsp_bits a) (omega (arith, length-append s t, length-bytes)) (same-append s t 0 (0 + length (rbsp_bits a)) (omega (arith, length-bytes))) bytes-hold in
      stands_read (s ++ t) a o (rw f h) ∙ rw l

  -- at least one
  pub rbsp-some : 0 < length (rbsp_bytes a)
  rbsp-some = omega (arith, length-bytes, length-rbsp a)

  -- and at most 832, 37 and 2,931 by kind
  pub rbsp-sent : length (rbsp_bytes a) ≤ most_sent (number_of a.kind)
  rbsp-sent = omega (arith, length-bytes, most-sent a.kind (length (aps.emit a)) (length (rbsp_bits a)) (aps-most a o) (omega (arith, length-rbsp a)))

  -- or fewer where it is not too long
  pub rbsp-most : length (rbsp_bytes a) ≤ 2048 → length (rbsp_bytes a) ≤ most_bytes (number_of a.kind)
  rbsp-most l = omega (arith, most-of a.kind (8 * length (rbsp_bytes a)) (omega (arith, rbsp-sent)) (omega (arith, l)))

  -- the stop bit
  stop-one : bit_at (rbsp_bytes a) (length (aps.emit a)) ≡ 1
  unfolding rbsp_bits trailing_bits
  stop-one =
      let n = length (aps.emit a) in
      let h = (holds-append (rbsp_bytes a) 0 (aps.emit a) (trailing_bits n) bytes-hold).1 in
      (holds-first (rbsp_bytes a) n 1 _ (rw (zero-add n) at h)).1

  -- the last byte is not 00
  pub rbsp-last : (n : ℕ) → length (rbsp_bytes a) ≡ suc n → get_or (rbsp_bytes a) n 0 ≡ 0 → ⊥
  unfolding bit_at
  rbsp-last n e z =
      let m = length (aps.emit a) in
      let i : m / 8 ≡ n = omega (arith, length-bytes, length-rbsp a) in
      let w : get_or (rbsp_bytes a) (m / 8) 0 ≡ 0 = rw i z in
      let b : 0 / 2 ^ (7 - m % 8) % 2 ≡ 1 = rw w at stop-one in
      omega (arith, zero-div (2 ^ (7 - m % 8)))

-- a set that was read has no more bytes than what it was read from
pub length-read : (s : List ℕ) (a : VvcAps) (q : ℕ) → read_rbsp s ≡ value a q → a.aps_extension_flag ≡ false → length (rbsp_bytes a) ≤ length s
length-read s a q e x =
    let o = (rbsp-sound s a q e).0 in
    let (h, n) = read-stands s a q e in
    omega (arith, n, ap length (bits-plain a x), length-bytes a o, rbsp-end s a q e)
