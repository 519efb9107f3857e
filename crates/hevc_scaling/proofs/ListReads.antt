-- The steps of scaling_list_data( ), as its readers take them.
use mathlib.Core.Path.{◌≡◌, refl, sym, ap, ◌∙◌}
use mathlib.Core.Bool.{true, false}
use mathlib.Core.List.{List, [], ◌∷◌, ◌++◌, append_assoc, append-nil}
use Prim.Native.Nat.{ℕ, suc, ◌+◌, ◌-◌, ◌*◌, ◌/◌, ◌%◌, ◌≤◌, ◌<◌}
use native.Mathlib.Nat.{sub-zero}
use native.Mathlib.Numerals.{add-one}
use native.Mathlib.Omega.{arith}
use borrow.Author.Tests.{lt-ltb, le-ltb}
use lib.Dec.{ltb}
use lib.IntN.{ℤ, pos, negsuc}
use lib.ListN.{length, take, set, length-set}
use lib.Seq.{take-suc-set, take_all}
use Rattle.bitstream.specs.Outcome.{Outcome, value, refused, map_outcome, ◌then◌}
use Rattle.aps.specs.Codec.{◌▷◌, via, when, each_from}
use Rattle.aps.specs.Elements.{flag, ue_to, se_in}
use Rattle.aps.proofs.Steps.{via-read}
use Rattle.bitstream.proofs.CodeLaws.{value-refused}
use Rattle.hevc_scaling.specs.Inner.{explicit_list, list_of}
use Rattle.hevc_scaling.specs.ListData.{filled}
use Rattle.hevc_scaling.specs.ListSyntax.{is_coded, max_delta, coef_num, wrapped, difference, coefficient, coefficients, cons, dc_coef, dc_at, explicit, no_entry, entry_syntax, list_at}

-- ---- the coefficients

module _ (next : ℕ) (s : List ℕ) (p : ℕ) where
  pub coefficient-read : (coefficient next).read s p ≡ map_outcome (wrapped next) ((se_in (negsuc 127) (pos 127)).read s p)
  unfolding coefficient
  coefficient-read = via-read (wrapped next) (difference next) (λ v. ltb v 256) (se_in (negsuc 127) (pos 127)) s p

  pub coefs-end : (coefficients 0 next).read s p ≡ value [] p
  unfolding coefficients each_from
  coefs-end = refl

  module _ (n : ℕ) where
    pub coefs-refused : {e : ℕ} → (coefficient next).read s p ≡ refused e → (coefficients (suc n) next).read s p ≡ refused e
    unfolding coefficients via ◌▷◌
    coefs-refused r = rw r

    pub coefs-more : {v : ℕ} {q : ℕ} → (coefficient next).read s p ≡ value v q
        → (coefficients (suc n) next).read s p ≡ map_outcome (λ l. v ∷ l) ((coefficients n v).read s q)
    unfolding coefficients via ◌▷◌
    coefs-more {v} {q} r = rw r (go ((coefficients n v).read s q))
      where
        go : (o : Outcome (List ℕ)) → ◌then◌ (◌then◌ o (λ b t. value (v, b) t)) (λ x t. value (cons x) t) ≡ map_outcome (λ l. v ∷ l) o
        go (value l t) = refl
        go (refused e) = refl

-- The loop over the coefficients of a list: those before i are stored in a, and what is left to read follows them.
pub record Filling (s : List ℕ) (n first p i : ℕ) (a : List ℕ) (next q : ℕ) : Type 0 where
  pub left : map_outcome (λ l. take i a ++ l) ((coefficients (n - i) next).read s q) ≡ (coefficients n first).read s p
  pub inside : q ≤ length s * 8
  pub size : length a ≡ n

module _ (s : List ℕ) (n first p : ℕ) where
  pub filling-start : {a : List ℕ} → p ≤ length s * 8 → length a ≡ n → Filling s n first p 0 a first p
  filling-start {a} h e = record { left = rw (sub-zero n) (go ((coefficients n first).read s p)); inside = h; size = e }
    where
      go : (o : Outcome (List ℕ)) → map_outcome (λ l. l) o ≡ o
      go (value l q) = refl
      go (refused k) = refl

  module _ {i : ℕ} {a : List ℕ} {next q : ℕ} (F : Filling s n first p i a next q) where
    pub filling-more : {v r : ℕ} → i < n → value v r ≡ (coefficient next).read s q → r ≤ length s * 8 → Filling s n first p (i + 1) (set a i v) v r
    filling-more {v} {r} h e k =
        let m : n - i ≡ suc (n - (i + 1)) = omega arith in
        let z : i < length a = omega (arith, F.size) in
        let f : map_outcome (λ l. take i a ++ l) ((coefficients (n - i) next).read s q) ≡ map_outcome (λ l. take (i + 1) (set a i v) ++ l) ((coefficients (n - (i + 1)) v).read s r)
        = rw (m, coefs-more next s q (n - (i + 1)) (sym e), add-one i, take-suc-set a i v z) (go ((coefficients (n - suc i) v).read s r)) in
        record { left = sym f ∙ F.left; inside = k; size = length-set a i v ∙ F.size }
      where
        go : (o : Outcome (List ℕ)) → map_outcome (λ l. take i a ++ l) (map_outcome (λ l. v ∷ l) o) ≡ map_outcome (λ l. (take i a ++ v ∷ []) ++ l) o
        go (value l q) = ap (λ (t : List ℕ). value t q) (sym (append_assoc (take i a) (v ∷ []) l))
        go (refused k) = refl

    pub filling-refused : {e : ℕ} → i < n → refused e ≡ (coefficient next).read s q → refused e ≡ (coefficients n first).read s p
    filling-refused {e} h f =
        let m : n - i ≡ suc (n - (i + 1)) = omega arith in
        let g : map_outcome (λ l. take i a ++ l) ((coefficients (n - i) next).read s q) ≡ refused e = rw (m, coefs-refused next s q (n - (i + 1)) (sym f)) in
        sym g ∙ F.left

    pub filling-done : n ≤ i → value a q ≡ (coefficients n first).read s p
    filling-done h =
        let m : n - i ≡ 0 = omega arith in
        let g : map_outcome (λ l. take i a ++ l) ((coefficients (n - i) next).read s q) ≡ value a q
        = rw (m, coefs-end next s q, append-nil (take i a), take_all i a (omega (arith, F.size))) in
        sym g ∙ F.left

-- a row of as many as the slice that they were read into
pub row-read : {m n : ℕ} (next : ℕ) (s : List ℕ) (p : ℕ) {o : Outcome (List ℕ)} → m ≡ n → o ≡ (coefficients m next).read s p
    → map_outcome (filled 64) o ≡ map_outcome (filled 64) ((coefficients n next).read s p)
row-read next s p e f = rw (f, e)

-- ---- a list that is not predicted

module _ (k : ℕ) (s : List ℕ) (p : ℕ) where
  pub dc-unsent : k < 2 → value (pos 0) p ≡ (dc_at k).read s p
  unfolding when
  dc-unsent h = rw (le-ltb 1 k (omega arith))

  pub dc-sent : 2 ≤ k → (dc_at k).read s p ≡ (se_in (negsuc 6) (pos 247)).read s p
  unfolding when
  dc-sent h = rw (lt-ltb 1 k (omega arith))

  pub explicit-first : {n : ℕ} → refused n ≡ (dc_at k).read s p → refused n ≡ map_outcome explicit_list ((explicit k).read s p)
  unfolding explicit ◌▷◌
  explicit-first e = rw (← e)

  module _ {dc : ℤ} {q : ℕ} (e : value dc q ≡ (dc_at k).read s p) where
    pub explicit-second : {n : ℕ} → refused n ≡ map_outcome (filled 64) ((coefficients (coef_num k) (dc_coef dc)).read s q) → refused n ≡ map_outcome explicit_list ((explicit k).read s p)
    unfolding explicit ◌▷◌
    explicit-second {n} f = rw (← e) (go ((coefficients (coef_num k) (dc_coef dc)).read s q) f)
      where
        go : (o : Outcome (List ℕ)) → refused n ≡ map_outcome (filled 64) o → refused n ≡ map_outcome explicit_list (◌then◌ o (λ b r. value (dc, b) r))
        go (value l r) f = absurd (value-refused (sym f))
        go (refused m) f = let g : n ≡ m = cc in rw g

    pub explicit-both : {l : List ℕ} {r : ℕ} → value l r ≡ map_outcome (filled 64) ((coefficients (coef_num k) (dc_coef dc)).read s q)
        → value (record { pred_mode_flag = true; pred_matrix_id_delta = 0; dc_coef_minus8 = dc; coefs = l }) r ≡ map_outcome explicit_list ((explicit k).read s p)
    unfolding explicit ◌▷◌ explicit_list list_of
    explicit-both {l} {r} f = rw (← e) (go ((coefficients (coef_num k) (dc_coef dc)).read s q) f)
      where
        go : (o : Outcome (List ℕ)) → value l r ≡ map_outcome (filled 64) o
            → value (record { pred_mode_flag = true; pred_matrix_id_delta = 0; dc_coef_minus8 = dc; coefs = l }) r ≡ map_outcome explicit_list (◌then◌ o (λ b r. value (dc, b) r))
        go (value l' r') f =
            let g : l ≡ filled 64 l' = cc in
            let h : r ≡ r' = cc in
            rw (g, h)
        go (refused m) f = absurd (value-refused f)

-- ---- a list

module _ (k : ℕ) (s : List ℕ) (p : ℕ) where
  pub list-unsent : is_coded (k / 6) (k % 6) ≡ false → value (list_of no_entry.default) p ≡ map_outcome list_of ((list_at k).read s p)
  unfolding when
  list-unsent e = rw e

  module _ (coded : is_coded (k / 6) (k % 6) ≡ true) where
    pub flag-refused : {n : ℕ} → refused n ≡ flag.read s p → refused n ≡ map_outcome list_of ((list_at k).read s p)
    unfolding when entry_syntax ◌▷◌
    flag-refused e = rw (coded, ← e)

    pub list-explicit : {q : ℕ} {o : Outcome _} → value true q ≡ flag.read s p → o ≡ map_outcome explicit_list ((explicit (k / 6)).read s q)
        → o ≡ map_outcome list_of ((list_at k).read s p)
    unfolding when entry_syntax ◌▷◌ explicit_list
    list-explicit {q} e f = f ∙ rw (coded, ← e) (go ((explicit (k / 6)).read s q))
      where
        go : (o : Outcome (ℤ × List ℕ)) → map_outcome explicit_list o ≡ map_outcome list_of (◌then◌ (◌then◌ o (λ b r. value (0, b) r)) (λ b r. value (true, b) r))
        go (value x r) = refl
        go (refused n) = refl

    module _ {q : ℕ} (e : value false q ≡ flag.read s p) where
      pub delta-refused : {n : ℕ} → refused n ≡ (ue_to (max_delta (k / 6) (k % 6))).read s q → refused n ≡ map_outcome list_of ((list_at k).read s p)
      unfolding when entry_syntax ◌▷◌
      delta-refused f = rw (coded, ← e, ← f)

      pub list-delta : {d r : ℕ} → value d r ≡ (ue_to (max_delta (k / 6) (k % 6))).read s q → value (list_of (false, (d, (pos 0, [])))) r ≡ map_outcome list_of ((list_at k).read s p)
      unfolding when entry_syntax ◌▷◌
      list-delta f = rw (coded, ← e, ← f)
