-- What a unit comes to on each way through it: passed over, refused, accepted.
use borrow.Author.Tests.{leb-true, le-leb, lt-leb, le-ltb, ltb-true, ltb-false, not-true}
use mathlib.Core.Path.{◌≡◌, refl, sym, ap, ◌∙◌}
use mathlib.Core.Bool.{Bool, true, false, cond, not, ◌&&◌}
use mathlib.Core.List.{List, ◌++◌}
use Prim.Native.Nat.{ℕ, ◌+◌, ◌/◌, ◌%◌, ◌≤◌}
use native.Mathlib.Omega.{arith}
use lib.Dec.{leb, ltb}
use lib.ListN.{length, get_or, take, drop, length-append}
use lib.Seq.{sets, take-append-le}
use Rattle.bitstream.specs.Outcome.{value, refused}
use Rattle.aps.specs.ApsSyntax.{number_of}
use Rattle.aps.specs.Rbsp.{read_rbsp}
use Rattle.aps.specs.Unit.{is_aps, rbsp_of, header_of, parse_nal_header, is_aps_header, unit_header, admitted, parse_aps, work_after}
use Rattle.aps.specs.declared.unit_header.UnitHeader.{UnitHeader}
use Rattle.aps.specs.Kinds.{largest_id, most_bytes}
use Rattle.aps.specs.Reading.{head_of}
use Rattle.aps.specs.declared.aps.ApsHead.{ApsHead}
use Rattle.aps.specs.declared.aps.VvcAps.{VvcAps}
use Rattle.bitstream.proofs.CodeLaws.{value-refused}
use Rattle.aps.proofs.CodecLaws.{then-value, and_left, and_right}
use Rattle.aps.proofs.RbspLaws.{rbsp-end, read-most}
use Rattle.aps.proofs.UnitSteps.{headed, not-admitted, admitted-lengths, unit-refused}
use Rattle.aps_table.specs.Places.{place_at, kind_in, id_in}
use Rattle.aps_table.specs.Inner.{names_damaged}
use Rattle.aps_table.specs.Taking.{is_passed, verdict, clear, take_unit}
use Rattle.aps_table.specs.Calls.{accepted, passed, refusal, single}
use Rattle.aps_table.proofs.PlaceSteps.{place-within}
use Rattle.aps_table.proofs.StoreLaws.{read_names, read_fits}
use Rattle.aps_table.proofs.VerdictLaws.{accepted-unit, refused-verdict, header-verdict}

-- ---- passed over

-- a unit without a header is not passed over
pub no-header : (u : List ℕ) {n : ℕ} → refused n ≡ parse_nal_header u → is_passed u ≡ false
unfolding is_passed parse_nal_header
no-header u {n} = go (ltb 65536 (length u)) (ltb (length u) 2) refl refl
  where
    go : (a b : Bool) → ltb 65536 (length u) ≡ a → ltb (length u) 2 ≡ b
        → refused n ≡ cond a (refused 4) (cond b (refused 1) (value (header_of u) 16))
        → (leb (length u) 65536 && (leb 2 (length u) && not (is_aps (get_or u 1 0 / 8)))) ≡ false
    go true b ea eb e = rw (lt-leb (length u) 65536 (ltb-true _ _ ea))
    go false true ea eb e = rw (le-leb (length u) 65536 (ltb-false _ _ ea), lt-leb 2 (length u) (ltb-true _ _ eb))
    go false false ea eb e = absurd (value-refused (sym e))

module _ (u w t : List ℕ) (p : is_passed u ≡ true) where
  -- its header is refused
  judged-passed : unit_header u ≡ refused 2
  unfolding is_passed unit_header parse_nal_header header_of is_aps_header
  judged-passed =
      let a = leb (length u) 65536 in
      let b = leb 2 (length u) in
      let n = not (is_aps (get_or u 1 0 / 8)) in
      let r = and_right a (b && n) p in
      rw (le-ltb 65536 (length u) (leb-true _ _ (and_left a (b && n) p)), le-ltb (length u) 2 (leb-true _ _ (and_left b n r)), not-true (is_aps (get_or u 1 0 / 8)) (and_right b n r))

  -- nothing changes
  pub passes : (passed ≡ single (verdict u (length w))) × ((t ≡ take_unit (length w) u t) × (w ≡ work_after u w))
  unfolding verdict take_unit
  passes = (rw p, (rw p, sym (unit-refused u w 2 (not-admitted u (length w) 2 judged-passed)).1))

-- ---- refused or accepted

module _ (u w t : List ℕ) (p : is_passed u ≡ false) where
  -- a refused header changes nothing
  pub header-refuses : (n : ℕ) → unit_header u ≡ refused n → (refusal n ≡ single (verdict u (length w))) × ((t ≡ take_unit (length w) u t) × (w ≡ work_after u w))
  unfolding take_unit
  header-refuses n e =
      let v = header-verdict u (length w) p n e in
      (rw v, (rw v, sym (unit-refused u w n (not-admitted u (length w) n e)).1))

module _ (u w t : List ℕ) (p : is_passed u ≡ false) (h : UnitHeader) (f : unit_header u ≡ value h 16) (n : ℕ) (e : parse_aps u (length w) ≡ refused n) where
  -- a refused unit leaves the table
  pub refuses : names_damaged u n ≡ false → (refusal n ≡ single (verdict u (length w))) × (t ≡ take_unit (length w) u t)
  unfolding take_unit
  refuses d = let v = refused-verdict u (length w) n h p f e in (rw (v, d), rw (v, d))

  -- but a damaged one empties the place that it names
  pub empties : names_damaged u n ≡ true → (refusal n ≡ single (verdict u (length w))) × (clear (get_or u 2 0 / 32) (get_or u 2 0 % 32) t ≡ take_unit (length w) u t)
  unfolding take_unit
  empties d = let v = refused-verdict u (length w) n h p f e in (rw (v, d), rw (v, d))

module _ (u w : List ℕ) (a : VvcAps) (q : ℕ) (e : parse_aps u (length w) ≡ value a q) where
  -- the set is its RBSP's, which starts the work buffer
  unit-set : (read_rbsp (rbsp_of u) ≡ value a q) × (work_after u w ≡ rbsp_of u ++ drop (length (rbsp_of u)) w)
  unfolding parse_aps work_after
  unit-set =
      let (x, r, ej, er) = then-value (admitted u (length w)) (λ e p. read_rbsp (rbsp_of u)) e in
      (er, rw ej)

  -- it is not too long
  unit-few : length (rbsp_of u) ≤ 2048
  unfolding parse_aps
  unit-few =
      let (x, r, ej, er) = then-value (admitted u (length w)) (λ e p. read_rbsp (rbsp_of u)) e in
      let (g, two, m, l) = admitted-lengths u (length w) x ej in
      m

  -- the bytes that were read end in the RBSP
  read-within : (q + 7) / 8 ≤ length (rbsp_of u)
  read-within = omega (arith, rbsp-end (rbsp_of u) a q unit-set.0)

  -- they are few
  pub read-few : q + 7 ≤ 300000
  unfolding kind_in
  read-few = omega (arith, read-most (rbsp_of u) a q unit-set.0 unit-few, (place-within (kind_in a) (id_in a) (read_names (rbsp_of u) a q unit-set.0)).1)

  module _ (v : List ℕ) (f : v ≡ work_after u w) where
    -- they are in the work buffer
    pub bytes-within : (q + 7) / 8 ≤ length v
    bytes-within = omega (arith, read-within, ap length (f ∙ unit-set.1), length-append (rbsp_of u) (drop (length (rbsp_of u)) w))

    -- and are the RBSP's
    bytes_read : take ((q + 7) / 8) v ≡ take ((q + 7) / 8) (rbsp_of u)
    bytes_read = rw (f, unit-set.1) (take-append-le ((q + 7) / 8) (rbsp_of u) (drop (length (rbsp_of u)) w) read-within)

    module _ (h : ApsHead) (g : h ≡ head_of a) where
      -- the head names a place
      pub head-named : h.aps_adaptation_parameter_set_id ≤ largest_id (number_of h.kind)
      unfolding kind_in id_in
      head-named = rw g (read_names (rbsp_of u) a q unit-set.0).1

      -- they fit there
      pub bytes_fit : length (take ((q + 7) / 8) v) ≤ most_bytes (number_of h.kind)
      unfolding kind_in
      bytes_fit = rw (g, bytes_read) (read_fits (rbsp_of u) a q unit-set.0 unit-few)

      -- an accepted unit replaces its place
      pub stores : (t : List ℕ) → is_passed u ≡ false → (k : UnitHeader) → unit_header u ≡ value k 16
          → (accepted ≡ single (verdict u (length w))) × (sets t (place_at (number_of h.kind) h.aps_adaptation_parameter_set_id) (take 2 u ++ take ((q + 7) / 8) v) ≡ take_unit (length w) u t)
      unfolding take_unit kind_in id_in
      stores t p k f =
          let y = accepted-unit u (length w) p k a q f e in
          (sym (ap single y), rw (y, g, bytes_read, (headed u k f).bytes))
