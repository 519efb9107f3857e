-- The steps of alf_data( ), as its readers take them.
use mathlib.Core.Path.{◌≡◌, refl, sym, ap}
use mathlib.Core.Bool.{Bool, true, false, cond, ◌&&◌}
use mathlib.Core.List.{List}
use Prim.Native.Nat.{ℕ, ◌+◌, ◌*◌, ◌/◌, ◌≤◌, ◌<◌}
use native.Mathlib.Nat.{mul_comm, div-lt_iff_lt-mul, le-div_iff_mul-le}
use native.Mathlib.Omega.{arith}
use borrow.Author.Tests.{ltb-true, ltb-false, le-ltb, le-leb, lt-leb}
use lib.Dec.{leb, ltb}
use lib.ListN.{replicate}
use Rattle.aps.specs.Codec.{Codec, u, via, judged, when, each}
use Rattle.aps.specs.Elements.{flag, no_flag, no_number, no_signed, apart}
use Rattle.bitstream.specs.Outcome.{Outcome, value, refused, map_outcome}
use Rattle.bitstream.specs.Fields.{lacks}
use Rattle.aps.specs.AlfSyntax.{ceil_log2, coefficient, luma_coefficients, luma_clips}
use Rattle.aps.specs.AlfSyntax.{Luma, luma_syntax, luma, to_luma, no_luma}
use Rattle.aps.specs.AlfSyntax.{Chroma, chroma_syntax, chroma, to_chroma, no_chroma}
use Rattle.aps.specs.AlfSyntax.{Cc, cc_syntax, cc, to_cc, no_cc, alf, alf_syntax, to_alf}
use Rattle.aps.specs.Reads.{Reads}
use Rattle.aps.specs.declared.reader.Reader.{Reader}
use Rattle.aps.specs.declared.alf.VvcAlfLuma.{VvcAlfLuma}
use Rattle.aps.specs.declared.alf.VvcAlfChroma.{VvcAlfChroma}
use Rattle.aps.specs.declared.alf.VvcAlfCcFilters.{VvcAlfCcFilters}
use Rattle.aps.specs.declared.alf.VvcAlfData.{VvcAlfData}
use Rattle.aps.specs.ApsSyntax.{zero_alf}
use Rattle.aps.proofs.Lawful.{Lawful, total}
use Rattle.aps.proofs.FieldLaws.{u-law}
use Rattle.aps.proofs.CodecLaws.{judged-law, when-law}
use Rattle.aps.proofs.EachLaws.{each-law, each_same}
use Rattle.aps.proofs.ElementLaws.{no_number-is, no_signed-is, apart-law}
use Rattle.aps.proofs.AlfLaws.{coefficient-law}
use Rattle.aps.proofs.FieldSteps.{none-lacking, flag-read, run-lacking}
use Rattle.aps.proofs.ReaderLaws.{stays, reads-via, reads-sent, reads-unsent}

-- an entry of a flat array is in a row that is sent, or below the count of entries sent
pub row-test : (w i n : ℕ) → 0 < w → ltb i (w * (n + 1)) ≡ leb (i / w) n
row-test w i n some = go (ltb i (w * (n + 1))) refl
  where
    go : (b : Bool) → ltb i (w * (n + 1)) ≡ b → b ≡ leb (i / w) n
    go true e =
        let h : i < (n + 1) * w = rw (mul_comm w (n + 1)) at (ltb-true i (w * (n + 1)) e) in
        let k : i / w < n + 1 = (div-lt_iff_lt-mul some).1 h in
        sym (le-leb (i / w) n (omega arith))
    go false e =
        let h : (n + 1) * w ≤ i = rw (mul_comm w (n + 1)) at (ltb-false i (w * (n + 1)) e) in
        let k : n + 1 ≤ i / w = (le-div_iff_mul-le some).1 h in
        sym (lt-leb (i / w) n (omega arith))

-- a clip is sent where the flag is set and the entry is
pub sent-test : (clip : Bool) (i n : ℕ) → ltb i (cond clip n 0) ≡ (clip && ltb i n)
sent-test true i n = refl
sent-test false i n = le-ltb i 0 (omega arith)

-- the entries that are sent, by their count: w to a row of the syntax, or in rows of six
module _ (n : ℕ) where
  pub luma-coefficients : apart (each 300 λ i. when (ltb i (12 * (n + 1))) no_signed coefficient) ≡ luma_coefficients n
  luma-coefficients = ap apart (each_same 300 λ j h. rw (row-test 12 j n (omega arith)))

  pub luma-clips : (clip : Bool) (rows : ℕ) → rows ≡ cond clip (2 * (n + 1)) 0 → (each 300 λ i. when (ltb i (6 * rows)) no_number (u 2)) ≡ luma_clips clip n
  luma-clips clip rows e = each_same 300 λ j h. ap (λ (b : Bool). when b no_number (u 2)) (go clip j e)
    where
      go : (clip : Bool) (j : ℕ) → rows ≡ cond clip (2 * (n + 1)) 0 → ltb j (6 * rows) ≡ (clip && leb (j / 12) n)
      go true j e = let f : 6 * rows ≡ 12 * (n + 1) = omega arith in rw (f, row-test 12 j n (omega arith))
      go false j e = let f : 6 * rows ≡ 0 = omega arith in rw (f, le-ltb j 0 (omega arith))

-- an index is sent where there is more than one filter
abbrev pub index : ℕ → Codec ℕ
index count-1 = when (ltb 0 count-1) no_number (judged (λ x. leb x count-1) (u (ceil_log2 (count-1 + 1))))

-- an index is lawful
pub index-law : (count-1 : ℕ) → Lawful (index count-1) (ceil_log2 (count-1 + 1))
index-law count-1 = when-law (ltb 0 count-1) no_number-is λ s. judged-law (λ x. leb x count-1) (u-law (ceil_log2 (count-1 + 1)))

-- coefficients, the first n of N sent
pub first-coefficients : (N n : ℕ) → Lawful (apart (each N λ i. when (ltb i n) no_signed coefficient)) (total 0 N (λ i. 16))
first-coefficients N n = apart-law (each-law 0 N λ i b. when-law (ltb i n) no_signed-is λ s. coefficient-law)

module _ (s : List ℕ) (p : ℕ) where
  flags-lacking : lacks s p 4 ≡ true → (alf_syntax true).read s p ≡ refused 1
  unfolding alf_syntax when
  flags-lacking =
      run-lacking s p 3 flag _ 1 _ (flag-read s p)
      (λ a. run-lacking s (p + 1) 2 (when true no_flag flag) _ 1 _ (flag-read s (p + 1))
      (λ b. run-lacking s (p + 1 + 1) 1 (when true no_flag flag) _ 1 _ (flag-read s (p + 1 + 1))
      (λ c. run-lacking s (p + 1 + 1 + 1) 0 (when true no_flag flag) _ 1 _ (flag-read s (p + 1 + 1 + 1)) (λ d m. absurd (none-lacking s _ m)))))

  -- bits are lacking for one of the four flags
  pub alf-lacking : lacks s p 4 ≡ true → (alf true).read s p ≡ refused 1
  unfolding alf via
  alf-lacking l = rw (flags-lacking l)

-- filters before any is read
pub blank-luma : {d : VvcAlfLuma} → d ≡ to_luma no_luma.default
    → (d.alf_luma_coeff_delta_idx ≡ replicate 25 0) × (d.coeff_abs ≡ replicate 300 0) × (d.coeff_sign ≡ replicate 300 false) × (d.clip_idx ≡ replicate 300 0)
unfolding to_luma
blank-luma e = (
  ap (λ (d : VvcAlfLuma). d.alf_luma_coeff_delta_idx) e,
  ap (λ (d : VvcAlfLuma). d.coeff_abs) e,
  ap (λ (d : VvcAlfLuma). d.coeff_sign) e,
  ap (λ (d : VvcAlfLuma). d.clip_idx) e,
)

pub blank-chroma : {d : VvcAlfChroma} → d ≡ to_chroma no_chroma.default → (d.coeff_abs ≡ replicate 48 0) × (d.coeff_sign ≡ replicate 48 false) × (d.clip_idx ≡ replicate 48 0)
unfolding to_chroma
blank-chroma e = (ap (λ (d : VvcAlfChroma). d.coeff_abs) e, ap (λ (d : VvcAlfChroma). d.coeff_sign) e, ap (λ (d : VvcAlfChroma). d.clip_idx) e)

pub blank-cc : {d : VvcAlfCcFilters} → d ≡ to_cc no_cc.default → (d.mapped_coeff_abs ≡ replicate 28 0) × (d.coeff_sign ≡ replicate 28 false)
unfolding to_cc
blank-cc e = (ap (λ (d : VvcAlfCcFilters). d.mapped_coeff_abs) e, ap (λ (d : VvcAlfCcFilters). d.coeff_sign) e)

-- a part that is signalled
module _ {b : Bool} {w0 w1 : Reader} (e : b ≡ true) where
  pub luma-sent : {o : Outcome Luma} → Reads luma_syntax o w0 w1 → Reads (luma b) (map_outcome to_luma o) w0 w1
  unfolding luma
  luma-sent r = reads-via _ _ _ (reads-sent _ no_luma e r)

  pub chroma-sent : {o : Outcome Chroma} → Reads chroma_syntax o w0 w1 → Reads (chroma b) (map_outcome to_chroma o) w0 w1
  unfolding chroma
  chroma-sent r = reads-via _ _ _ (reads-sent _ no_chroma e r)

  pub cc-sent : {o : Outcome Cc} → Reads cc_syntax o w0 w1 → Reads (cc b) (map_outcome to_cc o) w0 w1
  unfolding cc
  cc-sent r = reads-via _ _ _ (reads-sent _ no_cc e r)

-- and one that is not
module _ {b : Bool} {w : Reader} (e : b ≡ false) where
  pub luma-unsent : {d : VvcAlfLuma} → d ≡ to_luma no_luma.default → Reads (luma b) (value d w.at) w w
  unfolding luma
  luma-unsent f = rw f (reads-via _ _ _ (reads-unsent _ luma_syntax no_luma e stays))

  pub chroma-unsent : {d : VvcAlfChroma} → d ≡ to_chroma no_chroma.default → Reads (chroma b) (value d w.at) w w
  unfolding chroma
  chroma-unsent f = rw f (reads-via _ _ _ (reads-unsent _ chroma_syntax no_chroma e stays))

  pub cc-unsent : {d : VvcAlfCcFilters} → d ≡ to_cc no_cc.default → Reads (cc b) (value d w.at) w w
  unfolding cc
  cc-unsent f = rw f (reads-via _ _ _ (reads-unsent _ cc_syntax no_cc e stays))

pub blank-alf : {d : VvcAlfData} → d ≡ zero_alf → (d.luma ≡ to_luma no_luma.default) × (d.chroma ≡ to_chroma no_chroma.default) × (d.cc_cb ≡ to_cc no_cc.default) × (d.cc_cr ≡ to_cc no_cc.default)
unfolding zero_alf
blank-alf e = (ap (λ (d : VvcAlfData). d.luma) e, ap (λ (d : VvcAlfData). d.chroma) e, ap (λ (d : VvcAlfData). d.cc_cb) e, ap (λ (d : VvcAlfData). d.cc_cr) e)

-- a record of these flags
pub alf-parts : (d : VvcAlfData) {luma chroma cb cr : Bool}
    → (d.alf_luma_filter_signal_flag ≡ luma) × (d.alf_chroma_filter_signal_flag ≡ chroma) × (d.alf_cc_cb_filter_signal_flag ≡ cb) × (d.alf_cc_cr_filter_signal_flag ≡ cr)
    → d ≡ to_alf (luma, (chroma, (cb, (cr, (d.luma, (d.chroma, (d.cc_cb, d.cc_cr)))))))
unfolding to_alf
alf-parts d (l, h, b, r) = rw (← l, ← h, ← b, ← r)
