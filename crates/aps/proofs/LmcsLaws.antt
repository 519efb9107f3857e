-- lmcs_data( ) is lawful.
use mathlib.Core.Path.{◌≡◌, refl}
use mathlib.Core.Bool.{Bool, true, ◌&&◌}
use Prim.Native.Nat.{◌+◌, ◌-◌, ◌≤◌}
use native.Mathlib.Omega.{arith}
use lib.Dec.{leb, lit<}
use lib.ListN.{length, length-append}
use borrow.Author.Tests.{leb-true}
use lib.Count.{count_leading_zeros}
use Rattle.bitstream.specs.Fields.{ue_zeros, ue_bits}
use Rattle.aps.specs.Codec.{ue, ◌▷◌, judged}
use Rattle.aps.specs.LmcsSyntax.{LmcsHead, in_range, coded_from, lmcs_syntax, to_lmcs, from_lmcs, lmcs, lmcs_head}
use Rattle.aps.proofs.Lawful.{Lawful}
use Rattle.aps.proofs.FieldLaws.{u-law, ue-law}
use Rattle.aps.proofs.CodecLaws.{and_left, and_right, ▷-law, judged-law, when-law, via-law, bound-law, most-law}
use Rattle.aps.proofs.EachLaws.{each-law}
use Rattle.aps.proofs.ElementLaws.{ue-most, signed-law, no_signed-is, apart-law}

-- what inRange says
pub record Ranges (h : LmcsHead) : Type 0 where
  pub min : h.0 ≤ 15
  pub max : h.1.0 ≤ 15
  pub prec : h.1.1 ≤ 14

pub ranges : (h : LmcsHead) → in_range h ≡ true → Ranges h
unfolding in_range
ranges h e =
    let a = and_left (leb h.0 15 && (leb h.1.0 15 && leb h.0 (15 - h.1.0))) (leb h.1.1 14) e in
    let b = and_right (leb h.0 15) (leb h.1.0 15 && leb h.0 (15 - h.1.0)) a in
    record {
      min = leb-true h.0 15 (and_left (leb h.0 15) (leb h.1.0 15 && leb h.0 (15 - h.1.0)) a);
      max = leb-true h.1.0 15 (and_left (leb h.1.0 15) (leb h.0 (15 - h.1.0)) b);
      prec = leb-true h.1.1 14 (and_right (leb h.0 15 && (leb h.1.0 15 && leb h.0 (15 - h.1.0))) (leb h.1.1 14) e);
    }

-- a head that is taken is in range
pub head-ranges : (h : LmcsHead) → lmcs_head.ok h ≡ true → Ranges h
unfolding judged
head-ranges h o = ranges h (and_right ((ue ▷ λ min. ue ▷ λ max. ue).ok h) (in_range h) o)

-- so it has at most 25 bits
head-most : (h : LmcsHead) → lmcs_head.ok h ≡ true → length (lmcs_head.emit h) ≤ 25
unfolding judged ◌▷◌ ue ue_zeros count_leading_zeros
head-most h o =
    let r = head-ranges h o in
    omega (
      arith,
      length-append (ue_bits h.0) ((ue ▷ λ max. ue).emit h.1),
      length-append (ue_bits h.1.0) (ue_bits h.1.1),
      ue-most 15 h.0 (lit< tt) r.min,
      ue-most 15 h.1.0 (lit< tt) r.max,
      ue-most 14 h.1.1 (lit< tt) r.prec,
    )

pub head-law : Lawful lmcs_head 25
head-law = bound-law 25 head-most (judged-law in_range (▷-law ue-law (λ min o. ▷-law ue-law (λ max o. ue-law))))

-- what is sent: at most 285 bits
pub lmcs_syntax-law : (chroma : Bool) → Lawful (lmcs_syntax chroma) 285
unfolding lmcs_syntax
lmcs_syntax-law chroma =
    ▷-law head-law λ h o.
    ▷-law (apart-law (each-law 0 16 λ i b. when-law (coded_from h.0 h.1.0 i) no_signed-is λ c. signed-law (most-law {m' = 15} (let r = head-ranges h o in omega (arith, r.prec)) (u-law (h.1.1 + 1))))) λ cw o'.
    when-law chroma no_signed-is λ c. signed-law (u-law 3)

-- lmcs_data( ) is lawful, with at most 285 bits
pub lmcs-law : (chroma : Bool) → Lawful (lmcs chroma) 285
unfolding lmcs to_lmcs from_lmcs
lmcs-law chroma = via-law to_lmcs from_lmcs (λ d. true) (lmcs_syntax-law chroma) (λ x o. (refl, refl)) (λ d o t. refl)
