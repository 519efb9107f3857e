-- Round trips: a set that was read is written as the bytes it was read from, and a set that was written is read back, as an RBSP and as a unit.
use mathlib.Core.Path.{◌≡◌, refl, sym, ap, ◌∙◌}
use mathlib.Core.Bool.{Bool, true, false, cond}
use mathlib.Core.List.{List, [], ◌++◌, append-nil}
use Prim.Native.Nat.{ℕ, suc, ◌*◌, ◌/◌, ◌≤◌, ◌<◌}
use native.Mathlib.Omega.{arith}
use borrow.Author.Tests.{ltb-false}
use lib.Dec.{ltb}
use lib.ListN.{length, get_or, take, drop, take-append-drop}
use lib.Seq.{take-append_seam}
use Rattle.bitstream.specs.Outcome.{Outcome, value, refused, ◌then◌}
use Rattle.bitstream.specs.Escapes.{escape, put_bytes}
use Rattle.bitstream.proofs.CodeLaws.{value-refused}
use Rattle.bitstream.proofs.KeepLaws.{Bytes}
use Rattle.bitstream.proofs.EscapeLaws.{unescape-of-escape, escape-most}
use Rattle.aps.specs.Kinds.{most_bytes}
use Rattle.aps.specs.ApsSyntax.{number_of, aps, inferred}
use Rattle.aps.specs.Rbsp.{read_rbsp, parse_aps_rbsp, rbsp_bytes}
use Rattle.aps.specs.Unit.{rbsp_of, is_aps_header, unit_header, parse_aps}
use Rattle.aps.specs.declared.unit_header.UnitHeader.{UnitHeader}
use Rattle.aps.specs.Writing.{bytes_due, write_aps, unit_of, write_aps_nal}
use Rattle.aps.specs.declared.aps.VvcAps.{VvcAps}
use Rattle.aps.proofs.RbspSteps.{in-limits}
use Rattle.aps.proofs.RbspLaws.{rbsp-sound, read-write, write_read, rbsp-some, rbsp-most, rbsp-last, length-read}
use Rattle.aps.proofs.RbspWrites.{due-taken, taken-due}
use Rattle.aps.proofs.UnitWrites.{put-value}
use Rattle.aps.proofs.UnitSteps.{headed-bytes, admitted-by, fits}

-- ---- what a write that was answered says

-- an input that is read is within the limit
read-limits : (s : List ℕ) (a : VvcAps) (q : ℕ) → parse_aps_rbsp s ≡ value a q → (read_rbsp s ≡ value a q) × (length s ≤ 2048)
unfolding parse_aps_rbsp
read-limits s a q = go (ltb 2048 (length s)) refl
  where
    go : (b : Bool) → ltb 2048 (length s) ≡ b → cond b (refused 4) (read_rbsp s) ≡ value a q → (read_rbsp s ≡ value a q) × (length s ≤ 2048)
    go true t e = absurd (value-refused (sym e))
    go false t e = (e, ltb-false _ _ t)

-- bytes that were put stand at the start
put-start : (out l after : List ℕ) (n : ℕ) → put_bytes out l ≡ value after n → (n ≡ length l) × (take n after ≡ l)
put-start out l after n e =
    let (w, m, h) = put-value out l after n (sym e) in
    (m, rw (m, w) (take-append_seam l (drop (length l) out)))

-- a write of a set's bytes in some form
due-put : (a : VvcAps) (form : List ℕ → List ℕ) (out after : List ℕ) (n : ℕ) → (bytes_due a then λ bytes m. put_bytes out (form bytes)) ≡ value after n
    → (a.aps_extension_flag ≡ false) × (aps.ok a ≡ true) × (n ≡ length (form (rbsp_bytes a))) × (take n after ≡ form (rbsp_bytes a)) × (length (rbsp_bytes a) ≤ 2048)
due-put a form out after n = go (bytes_due a) refl
  where
    go : (o : Outcome (List ℕ)) → bytes_due a ≡ o → (o then λ bytes m. put_bytes out (form bytes)) ≡ value after n
        → (a.aps_extension_flag ≡ false) × (aps.ok a ≡ true) × (n ≡ length (form (rbsp_bytes a))) × (take n after ≡ form (rbsp_bytes a)) × (length (rbsp_bytes a) ≤ 2048)
    go (value l m) d e =
        let (x, o, w, c, s) = taken-due a l m d in
        let (k, t) = put-start out (form l) after n e in
        (x, o, k ∙ ap (λ (b : List ℕ). length (form b)) w, t ∙ ap form w, s)
    go (refused k) d e = absurd (value-refused (sym e))

-- ---- read, then written

module _ (s : List ℕ) (a : VvcAps) (q : ℕ) (e : parse_aps_rbsp s ≡ value a q) (x : a.aps_extension_flag ≡ false) (b : Bytes s) where
  -- a set read with extension flag 0 is written as exactly the RBSP bytes read for it, stop bit and padding included
  pub read-then-written : (out : List ℕ) → write_aps a out ≡ put_bytes out (take (q / 8) s)
  unfolding write_aps
  read-then-written out =
      let (r, m) = read-limits s a q e in
      rw (due-taken a x (rbsp-sound s a q r).0 (omega (arith, length-read s a q r x, m)), read-write s a q r x b)

  -- and as a unit as those with escapes put in
  pub read-then-unit : (h : UnitHeader) (out : List ℕ) → is_aps_header h ≡ true → write_aps_nal a h out ≡ put_bytes out (unit_of h (take (q / 8) s))
  unfolding write_aps_nal
  read-then-unit h out t =
      let (r, m) = read-limits s a q e in
      rw (t, due-taken a x (rbsp-sound s a q r).0 (omega (arith, length-read s a q r x, m)), read-write s a q r x b)

  -- reading ended after whole bytes
  pub read-bytes : q ≡ 8 * length (rbsp_bytes a)
  read-bytes =
      let (r, m) = read-limits s a q e in
      let o = rbsp-sound s a q r in
      let w : rbsp_bytes a ++ drop (q / 8) s ≡ s = rw (read-write s a q r x b) (take-append-drop (q / 8) s) in
      let f : value a q ≡ value (inferred a) (8 * length (rbsp_bytes a)) = sym r ∙ ap read_rbsp (sym w) ∙ write_read a o.0 x (drop (q / 8) s) in
      cc

-- ---- written, then read

module _ (a : VvcAps) (out after : List ℕ) (n : ℕ) where
  module _ (e : write_aps a out ≡ value after n) where
    wrote : (a.aps_extension_flag ≡ false) × (aps.ok a ≡ true) × (n ≡ length (rbsp_bytes a)) × (take n after ≡ rbsp_bytes a) × (length (rbsp_bytes a) ≤ 2048)
    unfolding write_aps
    wrote = due-put a (λ l. l) out after n e

    -- a set that the writer takes is read back the same, with what is not sent at its inferred values
    pub written-then-read : parse_aps_rbsp (take n after) ≡ value (inferred a) (8 * n)
    written-then-read =
        let (x, o, m, t, s) = wrote in
        rw (t, m) (in-limits (rbsp_bytes a) s ∙ ap read_rbsp (sym (append-nil (rbsp_bytes a))) ∙ write_read a o x [])

    -- it is not empty and has at most 832, 37 or 2,048 bytes by its kind
    pub written-length : (0 < n) × (n ≤ most_bytes (number_of a.kind))
    written-length =
        let (x, o, m, t, s) = wrote in
        (omega (arith, m, rbsp-some a o), omega (arith, m, rbsp-most a o s))

    -- and does not end in 00
    pub written_last : (m : ℕ) → n ≡ suc m → get_or (take n after) m 0 ≡ 0 → ⊥
    written_last k f z =
        let (x, o, m, t, s) = wrote in
        rbsp-last a o k (sym m ∙ f) (rw t at z)

-- ---- a unit

-- what a unit holds
pub unit-rbsp : (h : UnitHeader) (l : List ℕ) → rbsp_of (unit_of h l) ≡ l
unfolding unit_of
unit-rbsp h l = unescape-of-escape l

-- the header of an APS unit is read back
pub unit-headed : (h : UnitHeader) (l : List ℕ) → is_aps_header h ≡ true → length (unit_of h l) ≤ 65536 → unit_header (unit_of h l) ≡ value h 16
unfolding unit_header unit_of
unit-headed h l a m = headed-bytes h (escape l) a m

-- and it is read as its RBSP
pub unit-parsed : (h : UnitHeader) (l : List ℕ) (room : ℕ) → is_aps_header h ≡ true → length (unit_of h l) ≤ 65536 → length l ≤ 2048 → length l ≤ room
    → parse_aps (unit_of h l) room ≡ read_rbsp l
unfolding parse_aps
unit-parsed h l room a m s k = rw (admitted-by (unit_of h l) room h (unit-headed h l a m), unit-rbsp h l, fits l room s k)

-- the unit of an RBSP that is not too long is not long
unit-short : (h : UnitHeader) (l : List ℕ) → length l ≤ 2048 → length (unit_of h l) ≤ 65536
unfolding unit_of
unit-short h l s = omega (arith, escape-most l, s)

module _ (a : VvcAps) (h : UnitHeader) (out after : List ℕ) (n : ℕ) (e : write_aps_nal a h out ≡ value after n) where
  -- what `write_aps_nal` put
  nal-put : (is_aps_header h ≡ true) × (a.aps_extension_flag ≡ false) × (aps.ok a ≡ true) × (n ≡ length (unit_of h (rbsp_bytes a))) × (take n after ≡ unit_of h (rbsp_bytes a)) × (length (rbsp_bytes a) ≤ 2048)
  unfolding write_aps_nal
  nal-put = go (is_aps_header h) refl e
    where
      go : (b : Bool) → is_aps_header h ≡ b → cond b (bytes_due a then λ bytes m. put_bytes out (unit_of h bytes)) (refused 2) ≡ value after n
          → (is_aps_header h ≡ true) × (a.aps_extension_flag ≡ false) × (aps.ok a ≡ true) × (n ≡ length (unit_of h (rbsp_bytes a))) × (take n after ≡ unit_of h (rbsp_bytes a)) × (length (rbsp_bytes a) ≤ 2048)
      go true t e = let (x, o, m, k, s) = due-put a (unit_of h) out after n e in (t, x, o, m, k, s)
      go false t e = absurd (value-refused (sym e))

  -- `write_aps_nal`, then `parse_aps`: the set, with what is not sent at its inferred values
  pub unit-then-read : (room : ℕ) → length (rbsp_bytes a) ≤ room → parse_aps (take n after) room ≡ value (inferred a) (8 * length (rbsp_bytes a))
  unit-then-read room l =
      let (t, x, o, m, k, s) = nal-put in
      rw k (unit-parsed h (rbsp_bytes a) room t (unit-short h (rbsp_bytes a) s) s l ∙ ap read_rbsp (sym (append-nil (rbsp_bytes a))) ∙ write_read a o x [])

  -- and its header
  pub unit-then-header : unit_header (take n after) ≡ value h 16
  unit-then-header =
      let (t, x, o, m, k, s) = nal-put in
      rw k (unit-headed h (rbsp_bytes a) t (unit-short h (rbsp_bytes a) s))

-- a set read with extension flag 0, as a unit, is read back as itself
pub read-then-reads : (s : List ℕ) (a : VvcAps) (q : ℕ) → parse_aps_rbsp s ≡ value a q → a.aps_extension_flag ≡ false → Bytes s
    → (h : UnitHeader) → is_aps_header h ≡ true → (room : ℕ) → length (take (q / 8) s) ≤ room → parse_aps (unit_of h (take (q / 8) s)) room ≡ value a q
read-then-reads s a q e x b h t room l =
    let (r, c) = read-limits s a q e in
    let (o, f) = rbsp-sound s a q r in
    let w = read-write s a q r x b in
    let k : length (rbsp_bytes a) ≤ 2048 = omega (arith, length-read s a q r x, c) in
    let m : length (rbsp_bytes a) ≤ room = rw (← w) at l in
    rw (← w)
    (unit-parsed h (rbsp_bytes a) room t (unit-short h (rbsp_bytes a) k) k m ∙ ap read_rbsp (sym (append-nil (rbsp_bytes a))) ∙ write_read a o x []
    ∙ rw (f, read-bytes s a q e x b))
