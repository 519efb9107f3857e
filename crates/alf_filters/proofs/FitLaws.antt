-- What a writable ALF set bounds: every part of the description passed its own test.
use mathlib.Core.Path.{◌≡◌, refl, sym, ap, ◌∙◌, subst}
use mathlib.Core.Bool.{Bool, true, false, not, ◌&&◌}
use mathlib.Core.List.{List, [], ◌∷◌}
use Prim.Native.Nat.{ℕ, zero, suc, ◌+◌, ◌-◌, ◌*◌, ◌/◌, ◌^◌, ◌≤◌, ◌<◌}
use native.Mathlib.Decide.{dec_lt}
use native.Mathlib.Omega.{arith}
use borrow.Author.Tests.{ltb-true, leb-true, eqb-true}
use lib.Dec.{leb, ltb, eqb}
use lib.ListN.{length, get_or, drop, length-drop}
use lib.Seq.{get_or-take, get_or-drop}
use native.Mathlib.Nat.{zero-mul, suc-mul}
use Rattle.std.proofs.lemmas.List.{get_or_past}
use Rattle.aps.specs.Codec.{Codec, u, ue, ◌▷◌, via, judged, Inferred, when, each}
use Rattle.aps.specs.Elements.{flag, ue_to, signed, no_flag, no_number, no_signed, apart, flat, zipped, rows_of}
use Rattle.aps.specs.AlfSyntax.{ceil_log2, coefficient, luma, luma_syntax, luma_indexes, luma_coefficients, luma_clips, no_luma, from_luma, chroma, chroma_syntax, alternative, alternatives, no_chroma, from_chroma, cc, cc_syntax, no_cc, from_cc, alf, alf_syntax, from_alf}
use Rattle.aps.specs.ApsSyntax.{payload, aps_syntax, aps, from_aps, number_of, payload_of, of_alf, alf_in, is_alf}
use Rattle.aps.specs.Writing.{plain, writable, fit}
use Rattle.aps.specs.declared.alf.VvcAlfLuma.{VvcAlfLuma}
use Rattle.aps.specs.declared.alf.VvcAlfChroma.{VvcAlfChroma}
use Rattle.aps.specs.declared.alf.VvcAlfCcFilters.{VvcAlfCcFilters}
use Rattle.aps.specs.declared.alf.VvcAlfData.{VvcAlfData}
use Rattle.aps.specs.declared.aps.ApsKind.{ApsKind}
use Rattle.aps.specs.declared.aps.VvcAps.{VvcAps}
use Rattle.aps.proofs.CodecLaws.{and_left, and_right}
use Rattle.aps.proofs.EachLaws.{each-length, each_at}
use Rattle.alf_filters.specs.Inner.{AtMost, LumaFits, ChromaFits, CcFits}

-- ---- the parts of a description

module _ {A B : Type 0} where
  both-ok : (c : Codec A) (k : A → Codec B) (x : A × B) → (c ▷ k).ok x ≡ true → (c.ok x.0 ≡ true) × ((k x.0).ok x.1 ≡ true)
  unfolding ◌▷◌
  both-ok c k x o = (and_left (c.ok x.0) ((k x.0).ok x.1) o, and_right (c.ok x.0) ((k x.0).ok x.1) o)

  via-ok : (to : A → B) (from : B → A) (test : B → Bool) (c : Codec A) (b : B) → (via to from test c).ok b ≡ true → (c.ok (from b) ≡ true) × (test b ≡ true)
  unfolding via
  via-ok to from test c b o = (and_left (c.ok (from b)) (test b) o, and_right (c.ok (from b)) (test b) o)

module _ {A : Type 0} where
  judged-ok : (test : A → Bool) (c : Codec A) (a : A) → (judged test c).ok a ≡ true → (c.ok a ≡ true) × (test a ≡ true)
  unfolding judged
  judged-ok test c a o = (and_left (c.ok a) (test a) o, and_right (c.ok a) (test a) o)

  sent-ok : (b : Bool) (d : Inferred A) (c : Codec A) (a : A) → b ≡ true → (when b d c).ok a ≡ true → c.ok a ≡ true
  unfolding when
  sent-ok b d c a e o = rw e at o

  -- what the inferred value and every sent one have
  when-has : (P : A → Type 0) (b : Bool) (d : Inferred A) (c : Codec A) (a : A) → (d.is a ≡ true → P a) → (c.ok a ≡ true → P a) → (when b d c).ok a ≡ true → P a
  unfolding when
  when-has P true d c a f g o = g o
  when-has P false d c a f g o = f o

  -- what each value has, and the one that stands for those past the end
  each-has : (P : A → Type 0) (n : ℕ) (k : ℕ → Codec A) (d : A) (l : List A) → P d → ((j : ℕ) (a : A) → (k j).ok a ≡ true → P a) → (each n k).ok l ≡ true
      → (j : ℕ) → P (get_or l j d)
  each-has P n k d l p h o j = go (dec_lt j n)
    where
      many : length l ≡ n
      many = each-length 0 n k l o

      go : Dec (j < n) → P (get_or l j d)
      go (yes b) = h _ (get_or l j d) (each_at 0 n k d l o j b)
      go (no b) = rw (get_or_past l j d (omega (arith, many))) p

zipped-at : {A B : Type 0} (d : A) (e : B) (a : List A) (b : List B) → length a ≡ length b → (j : ℕ) → get_or (zipped a b) j (d, e) ≡ (get_or a j d, get_or b j e)
zipped-at d e [] [] h j = refl
zipped-at d e [] (y ∷ b) h j = absurd (omega arith)
zipped-at d e (x ∷ a) [] h j = absurd (omega arith)
zipped-at d e (x ∷ a) (y ∷ b) h zero = refl
zipped-at d e (x ∷ a) (y ∷ b) h (suc j) = zipped-at d e a b (omega arith) j

-- ---- elements

ue-most : (most v : ℕ) → (ue_to most).ok v ≡ true → v ≤ most
unfolding ue_to
ue-most most v o = leb-true v most (judged-ok (λ v. leb v most) ue v o).1

u-most : (n v : ℕ) → (u n).ok v ≡ true → v < 2 ^ n
unfolding u
u-most n v o = ltb-true v (2 ^ n) o

number-none : (v : ℕ) → no_number.is v ≡ true → v ≡ 0
number-none v o = eqb-true v 0 o

signed-none : (x : ℕ × Bool) → no_signed.is x ≡ true → x.0 ≡ 0
signed-none x o = eqb-true x.0 0 (and_left (eqb x.0 0) (not x.1) o)

signed-first : (c : Codec ℕ) (x : ℕ × Bool) → (signed c).ok x ≡ true → c.ok x.0 ≡ true
unfolding signed
signed-first c x o = (both-ok c (λ m. when (not (eqb m 0)) no_flag flag) x o).0

coefficient-most : (x : ℕ × Bool) → coefficient.ok x ≡ true → x.0 ≤ 128
unfolding coefficient
coefficient-most x o = ue-most 128 x.0 (signed-first (ue_to 128) x o)

-- magnitudes beside signs
apart-has : (P : ℕ → Type 0) (n : ℕ) (k : ℕ → Codec (ℕ × Bool)) (a : List ℕ) (b : List Bool) → P 0 → ((j : ℕ) (x : ℕ × Bool) → (k j).ok x ≡ true → P x.0)
    → (apart (each n k)).ok (a, b) ≡ true → (j : ℕ) → P (get_or a j 0)
unfolding apart
apart-has P n k a b p h o j =
    let (e, t) = via-ok _ (λ (x : List ℕ × List Bool). zipped x.0 x.1) (λ x. eqb (length x.0) (length x.1)) (each n k) (a, b) o in
    rw (zipped-at 0 false a b (eqb-true (length a) (length b) t) j) at (each-has (λ (x : ℕ × Bool). P x.0) n k (0, false) (zipped a b) p h e j)

-- ---- luma

module _ (clip : Bool) (n : ℕ) where
  indexes-most : n ≤ 24 → (l : List ℕ) → (luma_indexes n).ok l ≡ true → AtMost 24 l
  indexes-most h l o =
      each-has (λ (v : ℕ). v ≤ 24) 25 (λ i. when (ltb 0 n) no_number (judged (λ x. leb x n) (u (ceil_log2 (n + 1))))) 0 l (omega arith)
      (λ j v. when-has (λ (v : ℕ). v ≤ 24) (ltb 0 n) no_number (judged (λ x. leb x n) (u (ceil_log2 (n + 1)))) v
      (λ e. omega (arith, number-none v e)) (λ e. omega (arith, leb-true v n (judged-ok (λ x. leb x n) (u (ceil_log2 (n + 1))) v e).1)))
      o

  luma-magnitudes : (a : List ℕ) (b : List Bool) → (luma_coefficients n).ok (a, b) ≡ true → AtMost 128 a
  luma-magnitudes a b o =
      apart-has (λ (v : ℕ). v ≤ 128) 300 (λ i. when (leb (i / 12) n) no_signed coefficient) a b (omega arith)
      (λ j x. when-has (λ (x : ℕ × Bool). x.0 ≤ 128) (leb (j / 12) n) no_signed coefficient x (λ e. omega (arith, signed-none x e)) (coefficient-most x)) o

  luma-clips-most : (l : List ℕ) → (luma_clips clip n).ok l ≡ true → AtMost 3 l
  luma-clips-most l o =
      each-has (λ (v : ℕ). v ≤ 3) 300 (λ i. when (clip && leb (i / 12) n) no_number (u 2)) 0 l (omega arith)
      (λ j v. when-has (λ (v : ℕ). v ≤ 3) (clip && leb (j / 12) n) no_number (u 2) v (λ e. omega (arith, number-none v e)) (λ e. omega (arith, u-most 2 v e))) o

luma-fits : (s : Bool) (d : VvcAlfLuma) → s ≡ true → (luma s).ok d ≡ true → LumaFits d
unfolding luma luma_syntax from_luma
luma-fits s d e o =
    let (sent, t₀) = via-ok _ from_luma (λ d. true) (when s no_luma luma_syntax) d o in
    let (f, t₁) = both-ok _ _ (from_luma d) (sent-ok s no_luma luma_syntax (from_luma d) e sent) in
    let (count, t₂) = both-ok _ _ _ t₁ in
    let (indexes, t₃) = both-ok _ _ _ t₂ in
    let (magnitudes, clips) = both-ok _ _ _ t₃ in
    record {
      indexes = indexes-most d.alf_luma_clip_flag d.alf_luma_num_filters_signalled_minus1 (ue-most 24 d.alf_luma_num_filters_signalled_minus1 count) d.alf_luma_coeff_delta_idx indexes;
      magnitudes = luma-magnitudes d.alf_luma_clip_flag d.alf_luma_num_filters_signalled_minus1 d.coeff_abs d.coeff_sign magnitudes;
      clips = luma-clips-most d.alf_luma_clip_flag d.alf_luma_num_filters_signalled_minus1 d.clip_idx clips;
    }

-- ---- chroma

module _ {A : Type 0} where
  length-rows : (n w : ℕ) (l : List A) → length (rows_of n w l) ≡ n
  length-rows zero w l = refl
  length-rows (suc n) w l = ap suc (length-rows n w (drop w l))

  -- what the entries of all rows have, those of the array have
  rows-have : (P : A → Type 0) (d : A) → P d → (n w : ℕ) (l : List A) → length l ≡ n * w → ((r j : ℕ) → P (get_or (get_or (rows_of n w l) r []) j d))
      → (k : ℕ) → P (get_or l k d)
  rows-have P d p zero w l e h k = rw (get_or_past l k d (omega (arith, zero-mul w))) p
  rows-have P d p (suc n) w l e h k = go (dec_lt k w) (rows-have P d p n w (drop w l) (omega (arith, length-drop w l, suc-mul n w)) (λ r j. h (suc r) j))
    where
      go : Dec (k < w) → ((k : ℕ) → P (get_or (drop w l) k d)) → P (get_or l k d)
      go (yes b) rest = rw (get_or-take w l k d b) at (h 0 k)
      go (no b) rest = let e : w + (k - w) ≡ k = omega arith in rw e at (rw (get_or-drop w l (k - w) d) at (rest (k - w)))

abbrev Alternative : Type 0
Alternative = List (ℕ × Bool) × List ℕ

abbrev Small : Alternative → Type 0
Small x = ((j : ℕ) → (get_or x.0 j (0, false)).0 ≤ 128) × AtMost 3 x.1

alternative-small : (clip : Bool) (n r : ℕ) (x : Alternative) → (alternative clip n r).ok x ≡ true → Small x
unfolding alternative
alternative-small clip n r x o =
    let (coefficients, clips) = both-ok _ _ x o in (
      each-has (λ (v : ℕ × Bool). v.0 ≤ 128) 6 (λ j. when (leb r n) no_signed coefficient) (0, false) x.0 (omega arith)
          (λ j v. when-has (λ (v : ℕ × Bool). v.0 ≤ 128) (leb r n) no_signed coefficient v (λ e. omega (arith, signed-none v e)) (coefficient-most v)) coefficients,
      each-has (λ (v : ℕ). v ≤ 3) 6 (λ j. when (clip && leb r n) no_number (u 2)) 0 x.1 (omega arith)
          (λ j v. when-has (λ (v : ℕ). v ≤ 3) (clip && leb r n) no_number (u 2) v (λ e. omega (arith, number-none v e)) (λ e. omega (arith, u-most 2 v e))) clips,
    )

-- rows of pairs beside rows of clips
alternatives-small : (clip : Bool) (n : ℕ) (x : Alternative) → (alternatives clip n).ok x ≡ true → Small x
unfolding flat
alternatives-small clip n x o =
    let (rows, sizes) = via-ok _ (λ (x : Alternative). zipped (rows_of 8 6 x.0) (rows_of 8 6 x.1)) (λ x. eqb (length x.0) 48 && eqb (length x.1) 48) (each 8 (alternative clip n)) x o in
    let pairs = eqb-true (length x.0) 48 (and_left (eqb (length x.0) 48) (eqb (length x.1) 48) sizes) in
    let clips = eqb-true (length x.1) 48 (and_right (eqb (length x.0) 48) (eqb (length x.1) 48) sizes) in
    let small : (r : ℕ) → Small (get_or (rows_of 8 6 x.0) r [], get_or (rows_of 8 6 x.1) r []) =
    λ r.
    rw (zipped-at [] [] (rows_of 8 6 x.0) (rows_of 8 6 x.1) (length-rows 8 6 x.0 ∙ sym (length-rows 8 6 x.1)) r) at
    (each-has Small 8 (alternative clip n) ([], []) (zipped (rows_of 8 6 x.0) (rows_of 8 6 x.1)) (λ j. omega arith, λ j. omega arith) (λ j. alternative-small clip n j) rows r) in (
      rows-have (λ (v : ℕ × Bool). v.0 ≤ 128) (0, false) (omega arith) 8 6 x.0 pairs (λ r j. (small r).0 j),
      rows-have (λ (v : ℕ). v ≤ 3) 0 (omega arith) 8 6 x.1 clips (λ r j. (small r).1 j),
    )

chroma-fits : (s : Bool) (d : VvcAlfChroma) → s ≡ true → (chroma s).ok d ≡ true → ChromaFits d
unfolding chroma chroma_syntax from_chroma
chroma-fits s d e o =
    let (sent, same) = via-ok _ from_chroma (λ d. eqb (length d.coeff_abs) (length d.coeff_sign)) (when s no_chroma chroma_syntax) d o in
    let (f, t) = both-ok _ _ (from_chroma d) (sent-ok s no_chroma chroma_syntax (from_chroma d) e sent) in
    let (count, rows) = both-ok _ _ _ t in
    let small = alternatives-small d.alf_chroma_clip_flag d.alf_chroma_num_alt_filters_minus1 (zipped d.coeff_abs d.coeff_sign, d.clip_idx) rows in
    record {
      count = ue-most 7 d.alf_chroma_num_alt_filters_minus1 count;
      magnitudes = λ k. rw (zipped-at 0 false d.coeff_abs d.coeff_sign (eqb-true (length d.coeff_abs) (length d.coeff_sign) same) k) at (small.0 k);
      clips = small.1;
    }

-- ---- Cb and Cr

cc-fits : (s : Bool) (d : VvcAlfCcFilters) → s ≡ true → (cc s).ok d ≡ true → CcFits d
unfolding cc cc_syntax from_cc
cc-fits s d e o =
    let n = d.filters_signalled_minus1 in
    let (sent, t₀) = via-ok _ from_cc (λ d. true) (when s no_cc cc_syntax) d o in
    let (count, rows) = both-ok _ _ (from_cc d) (sent-ok s no_cc cc_syntax (from_cc d) e sent) in
    record {
      count = ue-most 3 n count;
      magnitudes = apart-has (λ (v : ℕ). v ≤ 7) 28 (λ i. when (leb (i / 7) n) no_signed (signed (u 3))) d.mapped_coeff_abs d.coeff_sign (omega arith)
          (λ j x. when-has (λ (x : ℕ × Bool). x.0 ≤ 7) (leb (j / 7) n) no_signed (signed (u 3)) x (λ e. omega (arith, signed-none x e))
          (λ e. omega (arith, u-most 3 x.0 (signed-first (u 3) x e)))) rows;
    }

-- ---- the set

alf-parts : (present : Bool) (d : VvcAlfData) → (alf present).ok d ≡ true
    → ((luma d.alf_luma_filter_signal_flag).ok d.luma ≡ true) × ((chroma d.alf_chroma_filter_signal_flag).ok d.chroma ≡ true)
    × ((cc d.alf_cc_cb_filter_signal_flag).ok d.cc_cb ≡ true) × ((cc d.alf_cc_cr_filter_signal_flag).ok d.cc_cr ≡ true)
unfolding alf alf_syntax from_alf
alf-parts present d o =
    let (all, t) = via-ok _ from_alf (λ d. true) (alf_syntax present) d o in
    let (f₀, t₀) = both-ok _ _ (from_alf d) all in
    let (f₁, t₁) = both-ok _ _ _ t₀ in
    let (f₂, t₂) = both-ok _ _ _ t₁ in
    let (f₃, t₃) = both-ok _ _ _ t₂ in
    let (y, t₄) = both-ok _ _ _ t₃ in
    let (c, t₅) = both-ok _ _ _ t₄ in
    let (cb, cr) = both-ok _ _ _ t₅ in
    (y, c, cb, cr)

number-alf : (k : ApsKind) → number_of k ≡ 0 → k ≡ ApsKind.Alf
number-alf ApsKind.Alf e = refl
number-alf ApsKind.Lmcs e = absurd (omega arith)
number-alf ApsKind.Scaling e = absurd (omega arith)

-- a set that fits has an ALF payload that the writer takes
payload-alf : (id : ℕ) (present : Bool) (d : VvcAlfData) → (payload 0 id present).ok (of_alf d) ≡ true → (alf present).ok d ≡ true
unfolding payload
payload-alf id present d o = (via-ok of_alf alf_in is_alf (alf present) (of_alf d) (judged-ok _ (via of_alf alf_in is_alf (alf present)) (of_alf d) o).0).0

fit-alf : (a : VvcAps) → fit ApsKind.Alf a ≡ true → (alf a.aps_chroma_present_flag).ok a.alf ≡ true
unfolding fit writable plain aps aps_syntax from_aps
fit-alf a o =
    let kind = number-alf a.kind (eqb-true (number_of a.kind) 0 (and_left (eqb (number_of a.kind) 0) (writable a) o)) in
    let (all, t) = via-ok _ from_aps (λ a. true) aps_syntax (plain a) (and_right (eqb (number_of a.kind) 0) (writable a) o) in
    let (f₀, t₀) = both-ok _ _ (from_aps (plain a)) all in
    let (f₁, t₁) = both-ok _ _ _ t₀ in
    let (f₂, t₂) = both-ok _ _ _ t₁ in
    let (p, t₃) = both-ok _ _ _ t₂ in
    payload-alf a.aps_adaptation_parameter_set_id a.aps_chroma_present_flag a.alf
    (subst (λ (k : ApsKind). (payload (number_of k) a.aps_adaptation_parameter_set_id a.aps_chroma_present_flag).ok (payload_of k a.aps_chroma_present_flag a.alf a.lmcs a.scaling) ≡ true) kind p)

-- what it bounds of each component that was sent
module _ (a : VvcAps) (o : fit ApsKind.Alf a ≡ true) where
  pub fit-luma : a.alf.alf_luma_filter_signal_flag ≡ true → LumaFits a.alf.luma
  fit-luma e = luma-fits a.alf.alf_luma_filter_signal_flag a.alf.luma e (alf-parts a.aps_chroma_present_flag a.alf (fit-alf a o)).0

  pub fit-chroma : a.alf.alf_chroma_filter_signal_flag ≡ true → ChromaFits a.alf.chroma
  fit-chroma e = chroma-fits a.alf.alf_chroma_filter_signal_flag a.alf.chroma e (alf-parts a.aps_chroma_present_flag a.alf (fit-alf a o)).1

  pub fit-cb : a.alf.alf_cc_cb_filter_signal_flag ≡ true → CcFits a.alf.cc_cb
  fit-cb e = cc-fits a.alf.alf_cc_cb_filter_signal_flag a.alf.cc_cb e (alf-parts a.aps_chroma_present_flag a.alf (fit-alf a o)).2

  pub fit-cr : a.alf.alf_cc_cr_filter_signal_flag ≡ true → CcFits a.alf.cc_cr
  fit-cr e = cc-fits a.alf.alf_cc_cr_filter_signal_flag a.alf.cc_cr e (alf-parts a.aps_chroma_present_flag a.alf (fit-alf a o)).3
