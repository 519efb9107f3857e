-- The steps of a unit, as its reader takes them: what its header allows, and its RBSP in the work buffer.
use Rattle.bitstream.specs.declared.Refusal.{Refusal}
use Rattle.std.specs.Prelude.{Result, Ok, Err}
use mathlib.Core.Path.{◌≡◌, refl, sym, ap, ◌∙◌}
use mathlib.Core.Bool.{Bool, true, false, cond, ◌&&◌, ◌||◌, false≢true}
use mathlib.Core.List.{List, [], ◌∷◌, ◌++◌}
use Prim.Native.Nat.{ℕ, suc, ◌*◌, ◌+◌, ◌-◌, ◌≤◌, ◌<◌, ◌/◌, ◌%◌}
use native.Mathlib.Omega.{arith}
use borrow.Author.Tests.{ltb-false, le-ltb, lt-ltb, leb-true, leb-false, eqb-true}
use lib.Dec.{leb, ltb, eqb}
use lib.ListN.{length, take, drop, length-drop, length-append}
use lib.Seq.{take-append_seam, take_all}
use Rattle.bitstream.specs.Outcome.{Outcome, value, refused, number, left, outcome_written, ◌then◌}
use Rattle.bitstream.specs.Escapes.{put_bytes, ebsp_to_rbsp}
use Rattle.bitstream.proofs.CodeLaws.{value-refused}
use Rattle.aps.specs.Rbsp.{read_rbsp, parse_aps_rbsp}
use Rattle.aps.specs.Inner.{Unwrapped}
use Rattle.aps.specs.Unit.{is_aps, rbsp_of, header_of, parse_nal_header, kept_of, is_aps_header, zero_bits, judged, unit_header, fitting, admitted, parse_aps, work_after}
use Rattle.aps.specs.Writing.{header_bytes}
use Rattle.aps.specs.declared.nal_header.VvcNalHeader.{VvcNalHeader}
use Rattle.aps.specs.declared.unit_header.UnitHeader.{UnitHeader}
use Rattle.aps.proofs.CodecLaws.{and_left, and_right}
use Rattle.aps.proofs.RbspSteps.{in-limits}

-- the bytes after the header
pub after-header : (u : List ℕ) → take (length u - 2) (drop 2 u) ≡ drop 2 u
after-header u = take_all (length u - 2) (drop 2 u) (omega (arith, length-drop 2 u))

-- the RBSP of a unit that has a header is put into a work buffer that has room for it, and else refused
module _ (u w : List ℕ) (h : length u ≤ 65536) where
  pub rbsp-put : length (rbsp_of u) ≤ length w
      → ebsp_to_rbsp (take (length u - 2) (drop 2 u)) w ≡ value (rbsp_of u ++ drop (length (rbsp_of u)) w) (length (rbsp_of u))
  unfolding ebsp_to_rbsp put_bytes
  rbsp-put l = rw (after-header u, le-ltb 65536 (length (drop 2 u)) (omega (arith, length-drop 2 u)), le-ltb (length w) (length (rbsp_of u)) l)

  rbsp-refused : length w < length (rbsp_of u) → ebsp_to_rbsp (take (length u - 2) (drop 2 u)) w ≡ refused 5
  unfolding ebsp_to_rbsp put_bytes
  rbsp-refused l = rw (after-header u, le-ltb 65536 (length (drop 2 u)) (omega (arith, length-drop 2 u)), lt-ltb (length w) (length (rbsp_of u)) l)

-- it is there in whole
rbsp-within : (u w v : List ℕ) (n : ℕ) → value (rbsp_of u ++ drop (length (rbsp_of u)) w) (length (rbsp_of u)) ≡ value v n → n ≤ length v
rbsp-within u w v n e =
    let a : rbsp_of u ++ drop (length (rbsp_of u)) w ≡ v = cc in
    let b : length (rbsp_of u) ≡ n = cc in
    omega (arith, b, ap length a, length-append (rbsp_of u) (drop (length (rbsp_of u)) w))

-- and is what is read there
rbsp-read : (u w v : List ℕ) (n : ℕ) → length (rbsp_of u) ≤ 2048 → value (rbsp_of u ++ drop (length (rbsp_of u)) w) (length (rbsp_of u)) ≡ value v n
    → read_rbsp (rbsp_of u) ≡ parse_aps_rbsp (take n v)
rbsp-read u w v n h e =
    let a : rbsp_of u ++ drop (length (rbsp_of u)) w ≡ v = cc in
    let b : length (rbsp_of u) ≡ n = cc in
    let t : take n v ≡ rbsp_of u = rw (sym b, sym a) (take-append_seam (rbsp_of u) (drop (length (rbsp_of u)) w)) in
    sym (ap parse_aps_rbsp t ∙ in-limits (rbsp_of u) h)

-- a unit that has a header: its lengths, and what the header is
pub header-given : (u : List ℕ) (h : VvcNalHeader) → value h 16 ≡ parse_nal_header u → (2 ≤ length u) × (length u ≤ 65536) × (h ≡ header_of u)
unfolding parse_nal_header
header-given u h = go (ltb 65536 (length u)) (ltb (length u) 2) refl refl
  where
    go : (a b : Bool) → ltb 65536 (length u) ≡ a → ltb (length u) 2 ≡ b
        → value h 16 ≡ cond a (refused 4) (cond b (refused 1) (value (header_of u) 16))
        → (2 ≤ length u) × (length u ≤ 65536) × (h ≡ header_of u)
    go true b ea eb e = absurd (value-refused e)
    go false true ea eb e = absurd (value-refused e)
    go false false ea eb e = (ltb-false _ _ eb, ltb-false _ _ ea, cc)

type-within : (n : ℕ) → is_aps n ≡ true → (17 ≤ n) × (n ≤ 18)
type-within n = go (eqb n 17) (eqb n 18) refl refl
  where
    go : (a b : Bool) → eqb n 17 ≡ a → eqb n 18 ≡ b → (a || b) ≡ true → (17 ≤ n) × (n ≤ 18)
    go true b ea eb e = (omega (arith, eqb-true n 17 ea), omega (arith, eqb-true n 17 ea))
    go false true ea eb e = (omega (arith, eqb-true n 18 eb), omega (arith, eqb-true n 18 eb))
    go false false ea eb e = absurd (false≢true e)

all-four : (a b c d : Bool) → (a && (b && (c && d))) ≡ true → (a ≡ true) × (b ≡ true) × (c ≡ true) × (d ≡ true)
all-four a b c d e =
    let r = and_right a (b && (c && d)) e in
    let s = and_right b (c && d) r in
    (and_left a (b && (c && d)) e, and_left b (c && d) r, and_left c d s, and_right c d s)

-- what holds of the header of an APS unit: its type, and its ranges
module _ (h : UnitHeader) (e : is_aps_header h ≡ true) where
  aps-parts : (is_aps h.nal_unit_type ≡ true) × (leb h.nuh_layer_id 55 ≡ true) × (leb 1 h.nuh_temporal_id_plus1 ≡ true) × (leb h.nuh_temporal_id_plus1 7 ≡ true)
  unfolding is_aps_header
  aps-parts = all-four (is_aps h.nal_unit_type) (leb h.nuh_layer_id 55) (leb 1 h.nuh_temporal_id_plus1) (leb h.nuh_temporal_id_plus1 7) e

  pub aps-type : is_aps h.nal_unit_type ≡ true
  aps-type = let (t, l, i, j) = aps-parts in t

  pub aps-within : (17 ≤ h.nal_unit_type) × (h.nal_unit_type ≤ 18) × (h.nuh_layer_id ≤ 55) × (1 ≤ h.nuh_temporal_id_plus1) × (h.nuh_temporal_id_plus1 ≤ 7)
  aps-within =
      let (t, l, i, j) = aps-parts in
      let (a, b) = type-within h.nal_unit_type t in
      (a, b, leb-true _ _ l, leb-true _ _ i, leb-true _ _ j)

-- one of an APS unit: its lengths, its two bytes, and that it is one
pub record Headed (u : List ℕ) (h : UnitHeader) : Type 0 where
  pub two : 2 ≤ length u
  pub short : length u ≤ 65536
  pub bytes : take 2 u ≡ header_bytes h
  pub aps : is_aps_header h ≡ true

-- the two bytes of a header without its zero bits
two-bytes : (u : List ℕ) → 2 ≤ length u → zero_bits (header_of u) ≡ true → take 2 u ≡ header_bytes (kept_of (header_of u))
unfolding zero_bits header_of
two-bytes [] l z = absurd (omega arith)
two-bytes (a ∷ []) l z = absurd (omega arith)
two-bytes (a ∷ b ∷ u) l z =
    let f = eqb-true (a / 128) 0 (and_left (eqb (a / 128) 0) (eqb (a / 64 % 2) 0) z) in
    let r = eqb-true (a / 64 % 2) 0 (and_right (eqb (a / 128) 0) (eqb (a / 64 % 2) 0) z) in
    let x : a ≡ a % 64 = omega (arith, f, r) in
    let y : b ≡ b / 8 * 8 + b % 8 = omega arith in
    ap (λ (n : ℕ). n ∷ b ∷ []) x ∙ ap (λ (n : ℕ). a % 64 ∷ n ∷ []) y

header-read : (u : List ℕ) (h : UnitHeader) {p : ℕ} → unit_header u ≡ value h p → Headed u h × (p ≡ 16)
unfolding unit_header parse_nal_header
header-read u h {p} = go (ltb 65536 (length u)) (ltb (length u) 2) refl refl
  where
    k : UnitHeader
    k = kept_of (header_of u)

    by : (c d : Bool) → is_aps_header k ≡ c → zero_bits (header_of u) ≡ d → 2 ≤ length u → length u ≤ 65536
        → cond (c && d) (value k 16) (refused 2) ≡ value h p → Headed u h × (p ≡ 16)
    by true true ec ed two short e =
        let w : k ≡ h = cc in
        (record { two = two; short = short; bytes = two-bytes u two ed ∙ ap header_bytes w; aps = ap is_aps_header (sym w) ∙ ec }, cc)
    by true false ec ed two short e = absurd (value-refused (sym e))
    by false d ec ed two short e = absurd (value-refused (sym e))

    go : (a b : Bool) → ltb 65536 (length u) ≡ a → ltb (length u) 2 ≡ b
        → (cond a (refused 4) (cond b (refused 1) (value (header_of u) 16)) then λ x q. judged x) ≡ value h p → Headed u h × (p ≡ 16)
    go true b ea eb e = absurd (value-refused (sym e))
    go false true ea eb e = absurd (value-refused (sym e))
    go false false ea eb e = by (is_aps_header k) (zero_bits (header_of u)) refl refl (ltb-false (length u) 2 eb) (ltb-false 65536 (length u) ea) e

pub headed : (u : List ℕ) (h : UnitHeader) {p : ℕ} → unit_header u ≡ value h p → Headed u h
headed u h e = (header-read u h e).0

-- it ends at bit 16
pub header-ends : (u : List ℕ) (h : UnitHeader) {p : ℕ} → unit_header u ≡ value h p → unit_header u ≡ value h 16
header-ends u h e = e ∙ ap (value h) (header-read u h e).1

-- the two bytes of one are read as it
pub headed-bytes : (h : UnitHeader) (l : List ℕ) → is_aps_header h ≡ true → length (header_bytes h ++ l) ≤ 65536 → unit_header (header_bytes h ++ l) ≡ value h 16
unfolding unit_header parse_nal_header header_of zero_bits
headed-bytes h l a m =
    let i = aps-within h a in
    let f : h.nuh_layer_id / 128 ≡ 0 = omega (arith, i) in
    let r : h.nuh_layer_id / 64 % 2 ≡ 0 = omega (arith, i) in
    let x : h.nuh_layer_id % 64 ≡ h.nuh_layer_id = omega (arith, i) in
    let y : (h.nal_unit_type * 8 + h.nuh_temporal_id_plus1) / 8 ≡ h.nal_unit_type = omega (arith, i) in
    let z : (h.nal_unit_type * 8 + h.nuh_temporal_id_plus1) % 8 ≡ h.nuh_temporal_id_plus1 = omega (arith, i) in
    rw (le-ltb 65536 (suc (suc (length l))) m, le-ltb (suc (suc (length l))) 2 (omega arith), f, r, x, y, z, a)

-- a unit with such a header goes as far as its RBSP if that fits
pub admitted-by : (u : List ℕ) (room : ℕ) (h : UnitHeader) {p : ℕ} → unit_header u ≡ value h p → admitted u room ≡ (fitting (rbsp_of u) room then λ x q. value h 16)
unfolding admitted
admitted-by u room h e = rw e

-- one without goes no further
pub not-admitted : (u : List ℕ) (room n : ℕ) → unit_header u ≡ refused n → admitted u room ≡ refused n
unfolding admitted
not-admitted u room n e = rw e

-- an RBSP that is not too long and has room
pub fits : (r : List ℕ) (room : ℕ) → length r ≤ 2048 → length r ≤ room → fitting r room ≡ value tt 16
unfolding fitting
fits r room h l = rw (le-ltb 2048 (length r) h, le-ltb room (length r) l)

-- one that is too long
pub fits-4 : (r : List ℕ) (room : ℕ) → 2048 < length r → fitting r room ≡ refused 4
unfolding fitting
fits-4 r room h = rw (lt-ltb 2048 (length r) h)

-- one that has no room
pub fits-5 : (r : List ℕ) (room : ℕ) → length r ≤ 2048 → room < length r → fitting r room ≡ refused 5
unfolding fitting
fits-5 r room h l = rw (le-ltb 2048 (length r) h, lt-ltb room (length r) l)

-- a unit with a header whose RBSP is too long
pub too-long : (u : List ℕ) (room : ℕ) (h : UnitHeader) {p : ℕ} → unit_header u ≡ value h p → 2048 < length (rbsp_of u) → admitted u room ≡ refused 4
too-long u room h e l = admitted-by u room h e ∙ rw (fits-4 (rbsp_of u) room l)

-- what fits is not too long and has room
pub fitted-lengths : (r : List ℕ) (room : ℕ) {x : Unit {0}} {q : ℕ} → fitting r room ≡ value x q → (length r ≤ 2048) × (length r ≤ room)
unfolding fitting
fitted-lengths r room {x} {q} = go (ltb 2048 (length r)) (ltb room (length r)) refl refl
  where
    go : (a b : Bool) → ltb 2048 (length r) ≡ a → ltb room (length r) ≡ b → cond a (refused 4) (cond b (refused 5) (value tt 16)) ≡ value x q → (length r ≤ 2048) × (length r ≤ room)
    go true b ea eb e = absurd (value-refused (sym e))
    go false true ea eb e = absurd (value-refused (sym e))
    go false false ea eb e = (ltb-false _ _ ea, ltb-false _ _ eb)

-- a unit that goes as far as its RBSP: its header, and its lengths
pub admitted-lengths : (u : List ℕ) (room : ℕ) (h : UnitHeader) {p : ℕ} → admitted u room ≡ value h p → (unit_header u ≡ value h 16) × (2 ≤ length u) × (length (rbsp_of u) ≤ 2048) × (length (rbsp_of u) ≤ room)
unfolding admitted
admitted-lengths u room h {p} = go (unit_header u) refl
  where
    value-is : {x : UnitHeader} {n m : ℕ} → value x n ≡ value h m → x ≡ h
    value-is e = cc

    by : (x : UnitHeader) (q : ℕ) (o : Outcome (Unit {0})) → unit_header u ≡ value x q → fitting (rbsp_of u) room ≡ o → (o then λ y r. value x 16) ≡ value h p
        → (unit_header u ≡ value h 16) × (2 ≤ length u) × (length (rbsp_of u) ≤ 2048) × (length (rbsp_of u) ≤ room)
    by x q (refused n) f g e = absurd (value-refused (sym e))
    by x q (value y r) f g e =
        let k : unit_header u ≡ value h q = f ∙ ap (λ (y : UnitHeader). value y q) (value-is e) in
        let (m, l) = fitted-lengths (rbsp_of u) room g in
        (header-ends u h k, (headed u h k).two, m, l)

    go : (o : Outcome UnitHeader) → unit_header u ≡ o → (o then λ h p. fitting (rbsp_of u) room then λ x q. value h 16) ≡ value h p
        → (unit_header u ≡ value h 16) × (2 ≤ length u) × (length (rbsp_of u) ≤ 2048) × (length (rbsp_of u) ≤ room)
    go (refused n) f e = absurd (value-refused (sym e))
    go (value x q) f e = by x q (fitting (rbsp_of u) room) f refl e

-- a unit that passes its header
unit-read : (u w : List ℕ) (h : UnitHeader) {p : ℕ} → admitted u (length w) ≡ value h p
    → (parse_aps u (length w) ≡ read_rbsp (rbsp_of u)) × (work_after u w ≡ rbsp_of u ++ drop (length (rbsp_of u)) w)
unfolding parse_aps work_after
unit-read u w h e = (rw e, rw e)

-- a unit that does not
pub unit-refused : (u w : List ℕ) (n : ℕ) → admitted u (length w) ≡ refused n → (parse_aps u (length w) ≡ refused n) × (work_after u w ≡ w)
unfolding parse_aps work_after
unit-refused u w n e = (rw e, rw e)

-- the RBSP of a unit that has a header and is not too long, as unescaping answers it
pub unwrapped : (u w v : List ℕ) (r : Result ℕ Refusal) (h : UnitHeader) {p : ℕ} → unit_header u ≡ value h p → length (rbsp_of u) ≤ 2048
    → outcome_written r v ≡ ebsp_to_rbsp (take (length u - 2) (drop 2 u)) w → v ≡ left w (ebsp_to_rbsp (take (length u - 2) (drop 2 u)) w)
    → Unwrapped r (parse_aps u (length w)) v × (v ≡ work_after u w)
unwrapped u w v r h e m f k = go (leb (length (rbsp_of u)) (length w)) refl r f
  where
    short : length u ≤ 65536
    short = (headed u h e).short

    put : length (rbsp_of u) ≤ length w → (r : Result ℕ Refusal) → outcome_written r v ≡ ebsp_to_rbsp (take (length u - 2) (drop 2 u)) w → Unwrapped r (parse_aps u (length w)) v × (v ≡ work_after u w)
    put l (Ok n) f =
        let (a, b) = unit-read u w h {p = 16} (admitted-by u (length w) h e ∙ rw (fits (rbsp_of u) (length w) m l)) in
        let k : value (rbsp_of u ++ drop (length (rbsp_of u)) w) (length (rbsp_of u)) ≡ value v n = sym (rbsp-put u w short l) ∙ sym f in
        let y : rbsp_of u ++ drop (length (rbsp_of u)) w ≡ v = cc in
        ((rbsp-within u w v n k, a ∙ rbsp-read u w v n m k), sym y ∙ sym b)
    put l (Err why) f = absurd (value-refused (sym (rbsp-put u w short l) ∙ sym f))

    none : length w < length (rbsp_of u) → (r : Result ℕ Refusal) → outcome_written r v ≡ ebsp_to_rbsp (take (length u - 2) (drop 2 u)) w → Unwrapped r (parse_aps u (length w)) v × (v ≡ work_after u w)
    none l (Ok n) f = absurd (value-refused (f ∙ rbsp-refused u w short l))
    none l (Err why) f =
        let (a, b) = unit-refused u w 5 (admitted-by u (length w) h e ∙ rw (fits-5 (rbsp_of u) (length w) m l)) in
        let g : refused (number why) ≡ refused 5 = f ∙ rbsp-refused u w short l in
        let z : number why ≡ 5 = cc in
        (rw z a, k ∙ ap (left w) (rbsp-refused u w short l) ∙ sym b)

    go : (t : Bool) → leb (length (rbsp_of u)) (length w) ≡ t → (r : Result ℕ Refusal) → outcome_written r v ≡ ebsp_to_rbsp (take (length u - 2) (drop 2 u)) w → Unwrapped r (parse_aps u (length w)) v × (v ≡ work_after u w)
    go true t r f = put (leb-true _ _ t) r f
    go false t r f = none (leb-false _ _ t) r f
