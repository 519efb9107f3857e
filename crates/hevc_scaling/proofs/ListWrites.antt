-- What is written of a list, and the loop over the lists.
use mathlib.Core.Path.{◌≡◌, refl, sym, ap, ◌∙◌}
use mathlib.Core.Bool.{Bool, true, false}
use mathlib.Core.List.{List, [], ◌∷◌}
use Prim.Native.Nat.{ℕ, zero, suc, ◌+◌, ◌-◌, ◌/◌, ◌%◌, ◌≤◌, ◌<◌}
use native.Mathlib.Nat.{zero-add, add-zero}
use native.Mathlib.Numerals.{add-one}
use native.Mathlib.Omega.{arith}
use lib.IntN.{ℤ, pos}
use lib.ListN.{length, take, drop}
use lib.Seq.{drop-length}
use Rattle.bitstream.specs.Outcome.{Outcome, value, refused, ◌then◌}
use Rattle.bitstream.proofs.CodeLaws.{value-refused}
use Rattle.aps.specs.Codec.{u, via, when, each_from}
use Rattle.aps.specs.Elements.{flag, ue_to, no_number, no_pair}
use Rattle.aps.specs.ScalingSyntax.{just}
use Rattle.aps.specs.Writes.{writes}
use Rattle.aps.proofs.WriterLaws.{writes-▷, writes-nil, writes-cons, writes-when, writes-none}
use Rattle.hevc_scaling.specs.Inner.{list_bits}
use Rattle.hevc_scaling.specs.ListData.{looked}
use Rattle.hevc_scaling.specs.declared.scaling_list.ScalingList.{ScalingList}
use Rattle.hevc_scaling.specs.ListSyntax.{is_coded, coef_num, coefficients, dc_coef, dc_at, explicit, no_bytes, no_entry, max_delta, Entry, entry_syntax, list_at, list_syntax}
use Rattle.aps.proofs.Lawful.{total}
use Rattle.hevc_scaling.proofs.ListLaws.{explicit_bits, rest_syntax}

-- ---- the bits

-- bits of the lists up to a list, and of those after it
total-add : (i k m : ℕ) (f : ℕ → ℕ) → total i (k + m) f ≡ total i k f + total (i + k) m f
total-add i zero m f = rw (zero-add m, add-zero i) (omega arith)
total-add i (suc k) m f =
    let a : suc k + m ≡ suc (k + m) = omega arith in
    let b : i + suc k ≡ suc i + k = omega arith in
    rw (a, b) (omega (arith, total-add (suc i) k m f))

-- one list more
pub total-more : (k : ℕ) → total 0 (k + 1) list_bits ≡ total 0 k list_bits + list_bits k
total-more k = total-add 0 k 1 list_bits ∙ rw (zero-add k) (omega arith)

-- there is room for it
pub total-room : (k : ℕ) → k < 24 → total 0 k list_bits + list_bits k ≤ 17020
unfolding list_bits is_coded coef_num
total-room k h =
    let m : 24 ≡ (k + 1) + (23 - k) = omega arith in
    let all : total 0 24 list_bits ≡ 17020 = refl in
    let e : total 0 24 list_bits ≡ total 0 (k + 1) list_bits + total (0 + (k + 1)) (23 - k) list_bits = ap (λ (n : ℕ). total 0 n list_bits) m ∙ total-add 0 (k + 1) (23 - k) list_bits in
    omega (arith, all, e, total-more k)

-- the room that a coded list takes
pub coded-bits : (k : ℕ) → is_coded (k / 6) (k % 6) ≡ true → list_bits k ≡ 1 + explicit_bits (k / 6)
unfolding list_bits
coded-bits k e = rw e

-- a flag is taken
pub flag-taken : (b : Bool) (out : List ℕ) (p : ℕ) {n : ℕ} → writes flag b out p ≡ refused n → ⊥
unfolding writes flag via u
flag-taken true out p e = value-refused e
flag-taken false out p e = value-refused e

module _ (k : ℕ) (out : List ℕ) (p : ℕ) where
  -- the DC and the coefficients, where neither is refused
  pub explicit-writes : (dc : ℤ) (l : List ℕ) {mid : List ℕ} {q : ℕ} {o : Outcome (List ℕ)} → value mid q ≡ writes (dc_at k) dc out p → o ≡ writes (coefficients (coef_num k) (dc_coef dc)) l mid q
      → o ≡ writes (explicit k) (dc, l) out p
  unfolding explicit
  explicit-writes dc l e f = f ∙ sym (writes-▷ (dc_at k) (λ dc. coefficients (coef_num k) (dc_coef dc)) dc l out p ∙ rw (← e))

  -- a DC that is refused
  pub explicit-refused : (dc : ℤ) (l : List ℕ) {n : ℕ} → refused n ≡ writes (dc_at k) dc out p → refused n ≡ writes (explicit k) (dc, l) out p
  unfolding explicit
  explicit-refused dc l e = sym (writes-▷ (dc_at k) (λ dc. coefficients (coef_num k) (dc_coef dc)) dc l out p ∙ rw (← e))

  module _ (l : ScalingList) where
    -- a list that is not coded
    pub list-none : is_coded (k / 6) (k % 6) ≡ false → value out p ≡ writes (list_at k) (looked k l) out p
    unfolding looked
    list-none e = rw e (sym (writes-none no_entry (entry_syntax (k / 6) (k % 6)) no_entry.default out p))

    module _ (coded : is_coded (k / 6) (k % 6) ≡ true) where
      -- one that is coded
      entry-writes : (x : Entry) → writes (list_at k) x out p ≡ writes (entry_syntax (k / 6) (k % 6)) x out p
      entry-writes x = rw coded (writes-when no_entry (entry_syntax (k / 6) (k % 6)) x out p)

      -- one that is not predicted: its flag, its DC and its coefficients
      pub list-explicit-writes : {mid : List ℕ} {q : ℕ} {o : Outcome (List ℕ)} → l.pred_mode_flag ≡ true → value mid q ≡ writes flag l.pred_mode_flag out p
          → o ≡ writes (explicit (k / 6)) (l.dc_coef_minus8, take (coef_num (k / 6)) l.coefs) mid q → o ≡ writes (list_at k) (looked k l) out p
      unfolding looked entry_syntax
      list-explicit-writes {mid} {q} t e f =
          let x : ℤ × List ℕ = (l.dc_coef_minus8, take (coef_num (k / 6)) l.coefs) in
          f ∙ sym (rw (coded, t)
          (writes-when no_entry (entry_syntax (k / 6) (k % 6)) (true, (0, x)) out p
          ∙ writes-▷ flag (λ pred. rest_syntax (k / 6) (k % 6) pred) true (0, x) out p
          ∙ ap (λ (o : Outcome (List ℕ)). o then λ o q. writes (rest_syntax (k / 6) (k % 6) true) (0, x) o q) (sym (rw t at e))
          ∙ writes-▷ (when false no_number (ue_to (max_delta (k / 6) (k % 6)))) (λ delta. when true (no_pair (just (pos 0)) no_bytes) (explicit (k / 6))) 0 x mid q
          ∙ ap (λ (o : Outcome (List ℕ)). o then λ o q. writes (when true (no_pair (just (pos 0)) no_bytes) (explicit (k / 6))) x o q) (writes-none no_number (ue_to (max_delta (k / 6) (k % 6))) 0 mid q)
          ∙ writes-when (no_pair (just (pos 0)) no_bytes) (explicit (k / 6)) x mid q))

      -- a predicted one: its flag and its delta
      pub list-delta-writes : {mid : List ℕ} {q : ℕ} {o : Outcome (List ℕ)} → l.pred_mode_flag ≡ false → value mid q ≡ writes flag l.pred_mode_flag out p
          → o ≡ writes (ue_to (max_delta (k / 6) (k % 6))) l.pred_matrix_id_delta mid q → o ≡ writes (list_at k) (looked k l) out p
      unfolding looked entry_syntax
      list-delta-writes {mid} {q} t e f =
          let x = l.pred_matrix_id_delta in
          f ∙ sym (rw (coded, t)
          (writes-when no_entry (entry_syntax (k / 6) (k % 6)) (false, (x, (pos 0, []))) out p
          ∙ writes-▷ flag (λ pred. rest_syntax (k / 6) (k % 6) pred) false (x, (pos 0, [])) out p
          ∙ ap (λ (o : Outcome (List ℕ)). o then λ o q. writes (rest_syntax (k / 6) (k % 6) false) (x, (pos 0, [])) o q) (sym (rw t at e))
          ∙ writes-▷ (when true no_number (ue_to (max_delta (k / 6) (k % 6)))) (λ delta. when false (no_pair (just (pos 0)) no_bytes) (explicit (k / 6))) x (pos 0, []) mid q
          ∙ ap (λ (o : Outcome (List ℕ)). o then λ o q. writes (when false (no_pair (just (pos 0)) no_bytes) (explicit (k / 6))) (pos 0, []) o q) (writes-when no_number (ue_to (max_delta (k / 6) (k % 6))) x mid q)
          ∙ nothing-after (writes (ue_to (max_delta (k / 6) (k % 6))) x mid q)))
        where
          nothing-after : (o : Outcome (List ℕ)) → (o then λ o q. writes (when false (no_pair (just (pos 0)) no_bytes) (explicit (k / 6))) (pos 0, []) o q) ≡ o
          nothing-after (value o q) = writes-none (no_pair (just (pos 0)) no_bytes) (explicit (k / 6)) (pos 0, []) o q
          nothing-after (refused n) = refl

-- The loop over the lists es: i are written, and what is left to write makes it whole.
pub record Sending (es : List Entry) (before : List ℕ) (start i : ℕ) (out : List ℕ) (p : ℕ) : Type 0 where
  pub rest : writes (each_from i (24 - i) list_at) (drop i es) out p ≡ writes list_syntax es before start

module _ (es : List Entry) (before : List ℕ) (start : ℕ) where
  pub sending-start : Sending es before start 0 before start
  unfolding list_syntax
  sending-start = record { rest = refl }

  module _ {i : ℕ} {out : List ℕ} {p : ℕ} (S : Sending es before start i out p) {e : Entry} (h : i < 24) (f : drop i es ≡ e ∷ drop (suc i) es) where
    step : (writes (list_at i) e out p then λ o q. writes (each_from (suc i) (24 - suc i) list_at) (drop (suc i) es) o q) ≡ writes list_syntax es before start
    step =
        let s : 24 - i ≡ suc (24 - suc i) = omega arith in
        sym (writes-cons list_at i (24 - suc i) e (drop (suc i) es) out p) ∙ (rw (s, f) at S.rest)

    pub sending-more : {after : List ℕ} {q : ℕ} → value after q ≡ writes (list_at i) e out p → Sending es before start (i + 1) after q
    sending-more w = rw (add-one i) (record { rest = ap (λ (o : Outcome (List ℕ)). o then λ o q. writes (each_from (suc i) (24 - suc i) list_at) (drop (suc i) es) o q) w ∙ step })

    pub sending-refused : {n : ℕ} → refused n ≡ writes (list_at i) e out p → refused n ≡ writes list_syntax es before start
    sending-refused w = ap (λ (o : Outcome (List ℕ)). o then λ o q. writes (each_from (suc i) (24 - suc i) list_at) (drop (suc i) es) o q) w ∙ step

  pub sending-done : {i : ℕ} {out : List ℕ} {p : ℕ} → Sending es before start i out p → i ≡ 24 → length es ≡ 24 → value out p ≡ writes list_syntax es before start
  sending-done {i} {out} {p} S h l =
      let none : drop 24 es ≡ [] = rw (← l) (drop-length es) in
      sym (writes-nil list_at 24 out p) ∙ (rw (h, none) at S.rest)
