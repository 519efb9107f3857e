-- Round trips: lists that were read are written as exactly the bits read, and lists that were written are read back, what is not sent as 0.
use mathlib.Core.Path.{◌≡◌, refl, sym, ap, ◌∙◌}
use mathlib.Core.Bool.{Bool, true, false, cond}
use mathlib.Core.List.{List, [], ◌∷◌, ◌++◌}
use Prim.Native.Nat.{ℕ, suc, ◌+◌, ◌/◌, ◌≤◌}
use native.Mathlib.Nat.{zero-add}
use native.Mathlib.Omega.{arith}
use borrow.Author.Tests.{ltb-false, le-ltb}
use lib.Dec.{ltb}
use lib.ListN.{length, take, drop, length-append}
use lib.Seq.{take-append_seam}
use Rattle.bitstream.specs.Outcome.{value, refused}
use Rattle.bitstream.specs.Bits.{bit_at, pack, Holds}
use Rattle.bitstream.specs.Escapes.{put_bytes}
use Rattle.bitstream.proofs.CodeLaws.{value-refused}
use Rattle.bitstream.proofs.HoldLaws.{holds_same}
use Rattle.bitstream.proofs.LocalLaws.{same-append}
use Rattle.bitstream.proofs.PackLaws.{length-pack}
use Rattle.aps.specs.Codec.{via}
use Rattle.aps.specs.ScalingSyntax.{tabulate}
use Rattle.aps.proofs.CodecLaws.{via-value}
use Rattle.aps.proofs.PackLaws.{pack-holds}
use Rattle.aps.proofs.UnitWrites.{put-value}
use Rattle.hevc_scaling.specs.ListData.{keep, look, lists, parse_scaling_list_data, list_bytes, write_scaling_list_data}
use Rattle.hevc_scaling.specs.ListSyntax.{list_syntax}
use Rattle.hevc_scaling.specs.declared.scaling_list.HevcScalingListData.{HevcScalingListData}
use Rattle.hevc_scaling.proofs.KeepLaws.{look-keep}
use Rattle.hevc_scaling.proofs.ListLaws.{list_syntax-law}
use Rattle.hevc_scaling.proofs.ByteWrites.{write-taken, write-not}

-- the first n bits of s
abbrev pub first_bits : ℕ → List ℕ → List ℕ
first_bits n s = tabulate 0 n (bit_at s)

-- bits that stand in s are its bits there
holds-bits : (s : List ℕ) (p : ℕ) (bs : List ℕ) → Holds s p bs → bs ≡ tabulate p (length bs) (bit_at s)
unfolding Holds
holds-bits s p [] h = refl
holds-bits s p (b ∷ bs) h =
    let e = sym h.1 in
    let f = holds-bits s (suc p) bs h.2 in
    λ i. e i ∷ f i

-- what an accepted input is: within the limit, and read by the description
parsed : (s : List ℕ) (d : HevcScalingListData) (q : ℕ) → parse_scaling_list_data s ≡ value d q → (length s ≤ 65536) × (lists.read s 0 ≡ value d q)
unfolding parse_scaling_list_data
parsed s d q = go (ltb 65536 (length s)) refl
  where
    go : (b : Bool) → ltb 65536 (length s) ≡ b → cond b (refused 4) (lists.read s 0) ≡ value d q → (length s ≤ 65536) × (lists.read s 0 ≡ value d q)
    go true t e = absurd (value-refused (sym e))
    go false t e = (ltb-false 65536 (length s) t, e)

-- ---- read, then written

module _ (s : List ℕ) (d : HevcScalingListData) (q : ℕ) (e : parse_scaling_list_data s ≡ value d q) where
  -- the lists as the description read them
  shaped : (list_syntax.read s 0 ≡ value (look d) q) × (keep (look d) ≡ d)
  unfolding lists
  shaped = via-value keep look (λ d. true) list_syntax-law look-keep s 0 d q (parsed s d q e).1

  -- lists that were read are taken by the writer
  pub read-taken : list_syntax.ok (look d) ≡ true
  read-taken = list_syntax-law.sound s 0 (look d) q shaped.0

  -- and have nothing but 0 where nothing is sent
  pub read-kept : keep (look d) ≡ d
  read-kept = shaped.1

  -- they stand in the input as they are written
  read-bits : lists.emit d ≡ first_bits q s
  unfolding lists via
  read-bits =
      let (h, n) = list_syntax-law.exact s 0 (look d) q shaped.0 in
      let m : q ≡ length (list_syntax.emit (look d)) = n ∙ zero-add (length (list_syntax.emit (look d))) in
      rw m (holds-bits s 0 (list_syntax.emit (look d)) h)

  -- lists that were read are written as exactly the bits read, zeros after them in the last byte
  pub read-then-written : (out : List ℕ) → write_scaling_list_data d out ≡ put_bytes out (pack (first_bits q s))
  unfolding list_bytes
  read-then-written out = write-taken d read-taken out ∙ ap (λ (bs : List ℕ). put_bytes out (pack bs)) read-bits

-- ---- written, then read

module _ (d : HevcScalingListData) (out after : List ℕ) (n : ℕ) (e : write_scaling_list_data d out ≡ value after n) where
  -- the lists were taken, and their bytes are at the start of the output
  wrote : (list_syntax.ok (look d) ≡ true) × (n ≡ length (list_bytes d)) × (take n after ≡ list_bytes d)
  wrote = go (list_syntax.ok (look d)) refl
    where
      go : (b : Bool) → list_syntax.ok (look d) ≡ b → (list_syntax.ok (look d) ≡ true) × (n ≡ length (list_bytes d)) × (take n after ≡ list_bytes d)
      go true o =
          let (w, m, h) = put-value out (list_bytes d) after n (sym e ∙ write-taken d o out) in
          (o, m, rw (m, w) (take-append_seam (list_bytes d) (drop (length (list_bytes d)) out)))
      go false o = absurd (value-refused (sym e ∙ write-not d o out))

  -- they end in the last of their bytes
  pub written-length : n ≡ (length (lists.emit d) + 7) / 8
  unfolding list_bytes
  written-length = wrote.1 ∙ length-pack (lists.emit d)

  -- at most 2,128 of them
  pub written-most : n ≤ 2128
  unfolding lists via
  written-most = omega (arith, written-length, list_syntax-law.most (look d) wrote.0)

  -- lists that were written are read back, whatever follows them: what is sent as it was, the rest as 0
  pub written-then-read : (t : List ℕ) → length (take n after ++ t) ≤ 65536 → parse_scaling_list_data (take n after ++ t) ≡ value (keep (look d)) (length (lists.emit d))
  unfolding parse_scaling_list_data lists via list_bytes
  written-then-read t l =
      let (o, m, w) = wrote in
      let bs = list_syntax.emit (look d) in
      let b = list_syntax-law.bits (look d) o in
      let f : length (pack bs) ≡ (length bs + 7) / 8 = length-pack bs in
      let s = pack bs ++ t in
      let h : Holds s 0 bs = holds_same (pack bs) s 0 bs (omega (arith, length-append (pack bs) t, f)) (same-append (pack bs) t 0 (0 + length bs) (omega (arith, f))) (pack-holds bs b) in
      let r = list_syntax-law.back s 0 (look d) o h in
      let k : length s ≤ 65536 = rw w at l in
      rw (w, le-ltb 65536 (length s) k, r, zero-add (length bs))
