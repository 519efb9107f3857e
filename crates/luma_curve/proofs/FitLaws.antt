-- A set that fits has a record in H.266's ranges: the writer takes it, and its description judges them.
use mathlib.Core.Path.{◌≡◌, refl}
use mathlib.Core.Bool.{Bool, true, false, not, ◌&&◌}
use mathlib.Core.List.{List, [], ◌∷◌}
use Prim.Native.Nat.{ℕ, zero, suc, ◌+◌, ◌^◌, ◌≤◌, ◌<◌}
use native.Mathlib.Omega.{arith}
use borrow.Author.Tests.{leb-true, leb-false, ltb-true, eqb-true}
use lib.Dec.{leb, ltb, eqb}
use lib.Pow.{pow_mono, pow_pos}
use lib.ListN.{length, get_or, get_or-eq_default}
use Rattle.aps.specs.ApsSyntax.{payload, of_lmcs, aps, aps_syntax, from_aps, number_of}
use Rattle.aps.specs.Codec.{Codec, u, ue, ◌▷◌, via, judged, when, each_from, provided}
use Rattle.aps.specs.Elements.{flag, signed, no_signed, zipped, apart}
use Rattle.aps.specs.Kinds.{largest_id}
use Rattle.aps.specs.LmcsSyntax.{LmcsHead, coded_from, in_range, lmcs_head, lmcs_codewords, lmcs_chroma, lmcs_syntax, from_lmcs, lmcs}
use Rattle.aps.specs.Writing.{plain, writable, fit}
use Rattle.aps.specs.declared.aps.ApsKind.{ApsKind}
use Rattle.aps.specs.declared.aps.VvcAps.{VvcAps}
use Rattle.aps.specs.declared.lmcs.VvcLmcsData.{VvcLmcsData}
use Rattle.aps.proofs.CodecLaws.{and_left, and_right}
use Rattle.aps.proofs.EachLaws.{each_at, each-length}
use Rattle.aps.proofs.LmcsLaws.{Ranges as LmcsRanges, head-ranges}
use Rattle.aps.proofs.LmcsSteps.{in-range}
use Rattle.aps.proofs.PairLaws.{zipped-length}
use Rattle.luma_curve.specs.Inner.{Ranges}

-- ---- its description takes the record

kind-of : (k : ApsKind) → eqb (number_of k) 1 ≡ true → k ≡ ApsKind.Lmcs
kind-of ApsKind.Alf e = absurd (cc)
kind-of ApsKind.Lmcs e = refl
kind-of ApsKind.Scaling e = absurd (cc)

payload-taken : (id : ℕ) (chroma : Bool) (v : VvcLmcsData) → (payload 1 id chroma).ok (of_lmcs v) ≡ true → (lmcs chroma).ok v ≡ true
unfolding payload provided via
payload-taken id chroma v e =
    and_left ((lmcs chroma).ok v) true (and_right (leb id (largest_id 1)) ((lmcs chroma).ok v && true) e)

set-taken : (a : VvcAps) → a.kind ≡ ApsKind.Lmcs → writable a ≡ true → (lmcs a.aps_chroma_present_flag).ok a.lmcs ≡ true
unfolding writable plain aps via aps_syntax ◌▷◌ from_aps
set-taken a k e =
    let id = a.aps_adaptation_parameter_set_id in
    let chroma = a.aps_chroma_present_flag in
    let sent = (payload 1 id chroma).ok (of_lmcs a.lmcs) in
    let all = and_left ((u 3).ok 1 && ((u 5).ok id && (flag.ok chroma && (sent && flag.ok false)))) true (rw k at e) in
    let after_kind = and_right ((u 3).ok 1) ((u 5).ok id && (flag.ok chroma && (sent && flag.ok false))) all in
    let after_id = and_right ((u 5).ok id) (flag.ok chroma && (sent && flag.ok false)) after_kind in
    let after_chroma = and_right (flag.ok chroma) (sent && flag.ok false) after_id in
    payload-taken id chroma a.lmcs (and_left sent (flag.ok false) after_chroma)

pub fit-taken : (a : VvcAps) → fit ApsKind.Lmcs a ≡ true → (lmcs a.aps_chroma_present_flag).ok a.lmcs ≡ true
unfolding fit
fit-taken a e = set-taken a (kind-of a.kind (and_left (eqb (number_of a.kind) 1) (writable a) e)) (and_right (eqb (number_of a.kind) 1) (writable a) e)

-- ---- the record that it takes

-- a magnitude of n bits, or none
signed-below : (b : Bool) (n : ℕ) (x : ℕ × Bool) → (when b no_signed (signed (u n))).ok x ≡ true → x.0 < 2 ^ n
unfolding when signed ◌▷◌ u
signed-below true n x o = ltb-true _ _ (and_left (ltb x.0 (2 ^ n)) _ o)
signed-below false n x o = let e = eqb-true x.0 0 (and_left (eqb x.0 0) (not x.1) o) in omega (arith, pow_pos n)

first-at : (a : List ℕ) (b : List Bool) → length a ≡ length b → (i : ℕ) → (get_or (zipped a b) i (0, false)).0 ≡ get_or a i 0
first-at [] b e i = refl
first-at (x ∷ a) [] e i = absurd (omega arith)
first-at (x ∷ a) (y ∷ b) e zero = refl
first-at (x ∷ a) (y ∷ b) e (suc i) = first-at a b (omega arith) i

-- one bin of the description
abbrev bin : LmcsHead → ℕ → Codec (ℕ × Bool)
bin h i = when (coded_from h.0 h.1.0 i) no_signed (signed (u (h.1.1 + 1)))

deltas-below : (h : LmcsHead) → h.1.1 ≤ 14 → (a : List ℕ) (b : List Bool) → (lmcs_codewords h).ok (a, b) ≡ true → (i : ℕ) → get_or a i 0 < 32768
unfolding apart via
deltas-below h p a b o i = go (leb 16 i) refl
  where
    each-ok : (each_from 0 16 (bin h)).ok (zipped a b) ≡ true
    each-ok = and_left ((each_from 0 16 (bin h)).ok (zipped a b)) (eqb (length a) (length b)) o

    same : length a ≡ length b
    same = eqb-true _ _ (and_right ((each_from 0 16 (bin h)).ok (zipped a b)) (eqb (length a) (length b)) o)

    sixteen : length a ≡ 16
    sixteen = let e = each-length 0 16 (bin h) (zipped a b) each-ok in let f = zipped-length a b (omega (arith, same)) in omega arith

    wide : 2 ^ (h.1.1 + 1) ≤ 2 ^ 15
    wide = let q : h.1.1 + 1 ≤ 15 = omega arith in pow_mono q

    go : (t : Bool) → leb 16 i ≡ t → get_or a i 0 < 32768
    go true e =
        let z : get_or a i 0 ≡ 0 = get_or-eq_default a 0 (omega (arith, sixteen, leb-true 16 i e)) in
        omega arith
    go false e =
        let x = each_at 0 16 (bin h) (0, false) (zipped a b) each-ok i (leb-false 16 i e) in
        let y = signed-below (coded_from h.0 h.1.0 (0 + i)) (h.1.1 + 1) (get_or (zipped a b) i (0, false)) x in
        omega (arith, first-at a b same i, wide)

taken-ranges : (chroma : Bool) (v : VvcLmcsData) → (lmcs chroma).ok v ≡ true → Ranges v
unfolding lmcs via from_lmcs lmcs_syntax ◌▷◌ judged
taken-ranges chroma v o =
    record {
      max = r.max;
      span = (in-range h.0 h.1.0 h.1.1 (and_right ((ue ▷ λ min. ue ▷ λ max. ue).ok h) (in_range h) head)).0;
      deltas = deltas-below h r.prec v.lmcs_delta_abs_cw v.lmcs_delta_sign_cw_flag words;
      chroma = omega (arith, signed-below chroma 3 crs last);
    }
  where
    h : LmcsHead
    h = (v.lmcs_min_bin_idx, (v.lmcs_delta_max_bin_idx, v.lmcs_delta_cw_prec_minus1))

    cw : List ℕ × List Bool
    cw = (v.lmcs_delta_abs_cw, v.lmcs_delta_sign_cw_flag)

    crs : ℕ × Bool
    crs = (v.lmcs_delta_abs_crs, v.lmcs_delta_sign_crs_flag)

    parts : (lmcs_head.ok h && ((lmcs_codewords h).ok cw && (lmcs_chroma chroma).ok crs)) ≡ true
    parts = and_left (lmcs_head.ok h && ((lmcs_codewords h).ok cw && (lmcs_chroma chroma).ok crs)) true o

    head : lmcs_head.ok h ≡ true
    head = and_left (lmcs_head.ok h) ((lmcs_codewords h).ok cw && (lmcs_chroma chroma).ok crs) parts

    tail : ((lmcs_codewords h).ok cw && (lmcs_chroma chroma).ok crs) ≡ true
    tail = and_right (lmcs_head.ok h) ((lmcs_codewords h).ok cw && (lmcs_chroma chroma).ok crs) parts

    words : (lmcs_codewords h).ok cw ≡ true
    words = and_left ((lmcs_codewords h).ok cw) ((lmcs_chroma chroma).ok crs) tail

    last : (lmcs_chroma chroma).ok crs ≡ true
    last = and_right ((lmcs_codewords h).ok cw) ((lmcs_chroma chroma).ok crs) tail

    r : LmcsRanges h
    r = head-ranges h head

-- of a set that fits
pub fit-ranges : (a : VvcAps) → fit ApsKind.Lmcs a ≡ true → Ranges a.lmcs
fit-ranges a e = taken-ranges a.aps_chroma_present_flag a.lmcs (fit-taken a e)
