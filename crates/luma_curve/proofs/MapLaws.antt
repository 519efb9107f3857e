-- The map never falls and samples k apart land at most 8 × k apart: a bin's end is the next bin's start, and inside a bin one sample on adds 0 to 8.
use mathlib.Core.Path.{◌≡◌, refl, ap, ◌∙◌}
use mathlib.Core.Logic.{⊎_elim}
use Prim.Native.Nat.{ℕ, zero, suc, ◌+◌, ◌*◌, ◌-◌, ◌/◌, ◌≤◌, ◌<◌}
use native.Mathlib.Nat.{eq-or-lt_of_le, mul-add, mul_assoc, mul_comm, mul-one, mul-zero, zero-mul, suc-mul, mul-le-mul_left, mul-div-mul_left, mul-add-div_right, add-mul-div_right, div-lt_iff_lt-mul, le-div_iff_mul-le, div-mul-le_self, lt-div-mul-add, div-eq_of_lt, le_trans}
use native.Mathlib.Omega.{arith}
use Rattle.luma_curve.specs.Bin.{pivot, forward}
use Rattle.luma_curve.specs.Map.{mapped}
use Rattle.luma_curve.proofs.OrgLaws.{Halves, o-pos, h-less, forward-is}

-- division keeps order
pub div-mono : (k : ℕ) {a b : ℕ} → 0 < k → a ≤ b → a / k ≤ b / k
div-mono k {a} {b} p h = (le-div_iff_mul-le p).1 (le_trans (div-mul-le_self a k) h)

module _ {o h k : ℕ} (u : Halves o h k) where
  k-full : k * h ≡ 1024
  k-full =
      let e : k * o ≡ k * h + k * h = ap (λ (n : ℕ). k * n) (u.two) ∙ mul-add k h h in
      omega (arith, u.full)

  k-pos : 0 < k
  k-pos = pos k k-full
    where
      pos : (k : ℕ) → k * h ≡ 1024 → 0 < k
      pos zero e = omega (arith, zero-mul h)
      pos (suc k) e = omega arith

  -- what a sample adds inside its bin
  pub inside : ℕ → ℕ → ℕ
  inside c x = (c * x + h) / o

  inside-is : (c x : ℕ) → (forward o c * x + 1024) / 2048 ≡ inside c x
  unfolding inside
  inside-is c x =
      let e : forward o c * x + 1024 ≡ k * (c * x + h)
      = rw (forward-is u c, mul-add k (c * x) h, k-full, mul_comm c k, mul_assoc k c x) in
      rw (e, ← u.full, mul-div-mul_left (c * x + h) o k-pos)

  inside-none : (c : ℕ) → inside c 0 ≡ 0
  unfolding inside
  inside-none c = rw mul-zero (let z : 0 + h ≡ h = omega arith in rw z (h-less u))

  inside-all : (c : ℕ) → inside c o ≡ c
  unfolding inside
  inside-all c = let g : h / o ≡ 0 = h-less u in rw (mul-add-div_right (o-pos u) c h, g) (omega arith)

  inside-mono : (c : ℕ) {x y : ℕ} → x ≤ y → inside c x ≤ inside c y
  unfolding inside
  inside-mono c {x} {y} l = div-mono o (o-pos u) (let m : c * x ≤ c * y = mul-le-mul_left c l in omega arith)

  inside-step : (c x : ℕ) → c ≤ 8 * o → inside c (x + 1) ≤ inside c x + 8
  unfolding inside
  inside-step c x l =
      let e : c * (x + 1) ≡ c * x + c = mul-add c x 1 ∙ ap (λ (n : ℕ). c * x + n) (mul-one c) in
      let m : (c * (x + 1) + h) / o ≤ (c * x + h + 8 * o) / o = div-mono o (o-pos u) (omega arith) in
      rw (add-mul-div_right (c * x + h) 8 (o-pos u)) at m

  module _ (cw : ℕ → ℕ) where
    -- a sample by its bin and its place in it
    place : (b x : ℕ) → x < o → mapped o cw (b * o + x) ≡ pivot cw b + inside (cw b) x
    unfolding mapped
    place b x l =
        let q : (b * o + x) / o ≡ b = mul-add-div_right (o-pos u) b x ∙ (let z : x / o ≡ 0 = div-eq_of_lt l in rw z (omega arith)) in
        let r : b * o + x - b * o ≡ x = omega arith in
        rw (q, r, inside-is (cw b) x)

    -- this bin's end is the next one's start
    place-end : (b x : ℕ) → x ≤ o → mapped o cw (b * o + x) ≡ pivot cw b + inside (cw b) x
    unfolding pivot
    place-end b x l = ⊎_elim last (place b x) (eq-or-lt_of_le l)
      where
        last : x ≡ o → mapped o cw (b * o + x) ≡ pivot cw b + inside (cw b) x
        last e =
            let n : b * o + o ≡ suc b * o + 0 = omega (arith, suc-mul b o) in
            rw (e, n, place (suc b) 0 (o-pos u), inside-none (cw (suc b)), inside-all (cw b)) (omega arith)

    -- a sample's place
    located : (s : ℕ) → (b : ℕ) × (x : ℕ) × ((x < o) × (s ≡ b * o + x) × (b ≡ s / o))
    located s =
        let l : s / o * o ≤ s = div-mul-le_self s o in
        let g : s < s / o * o + o = lt-div-mul-add (o-pos u) in
        (s / o, s - s / o * o, (omega arith, omega arith, refl))

    -- one sample on: no lower, and at most 8 higher
    pub step-up : (s : ℕ) → mapped o cw s ≤ mapped o cw (s + 1)
    step-up s =
        let (b, x, f) = located s in
        let n : b * o + x + 1 ≡ b * o + (x + 1) = omega arith in
        let m : inside (cw b) x ≤ inside (cw b) (x + 1) = inside-mono (cw b) (omega arith) in
        rw (f.1, n, place b x (f.0), place-end b (x + 1) (omega arith)) (omega arith)

    pub step-most : ((i : ℕ) → cw i ≤ 8 * o) → (s : ℕ) → mapped o cw (s + 1) ≤ mapped o cw s + 8
    step-most small s =
        let (b, x, f) = located s in
        let n : b * o + x + 1 ≡ b * o + (x + 1) = omega arith in
        let m : inside (cw b) (x + 1) ≤ inside (cw b) x + 8 = inside-step (cw b) x (small b) in
        rw (f.1, n, place b x (f.0), place-end b (x + 1) (omega arith)) (omega arith)

    -- k samples on
    pub on-up : (s k : ℕ) → mapped o cw s ≤ mapped o cw (s + k)
    on-up s zero = let e : s + 0 ≡ s = omega arith in rw e (omega arith)
    on-up s (suc k) =
        let e : s + suc k ≡ s + k + 1 = omega arith in
        let i = on-up s k in
        let j = step-up (s + k) in
        rw e (omega arith)

    pub on-most : ((i : ℕ) → cw i ≤ 8 * o) → (s k : ℕ) → mapped o cw (s + k) ≤ mapped o cw s + 8 * k
    on-most small s zero = let e : s + 0 ≡ s = omega arith in rw e (omega arith)
    on-most small s (suc k) =
        let e : s + suc k ≡ s + k + 1 = omega arith in
        let i = on-most small s k in
        let j = step-most small (s + k) in
        rw e (omega arith)

    -- running sums never fall
    pub pivot-up : (i k : ℕ) → pivot cw i ≤ pivot cw (i + k)
    unfolding pivot
    pivot-up i zero = let e : i + 0 ≡ i = omega arith in rw e (omega arith)
    pivot-up i (suc k) =
        let e : i + suc k ≡ suc (i + k) = omega arith in
        let l = pivot-up i k in
        rw e (omega arith)

    -- a sample lands at most at its bin's end
    pub mapped-end : (s : ℕ) → mapped o cw s ≤ pivot cw (suc (s / o))
    unfolding pivot
    mapped-end s =
        let (b, x, f) = located s in
        let m : inside (cw b) x ≤ inside (cw b) o = inside-mono (cw b) (omega arith) in
        omega (arith, ap (mapped o cw) (f.1), place b x (f.0), inside-all (cw b), ap (pivot cw) (f.2), ap cw (f.2))

    pub mapped-sum : (n s : ℕ) → s < n * o → mapped o cw s ≤ pivot cw n
    mapped-sum n s l =
        let q : s / o < n = (div-lt_iff_lt-mul (o-pos u)).1 l in
        let e : suc (s / o) + (n - suc (s / o)) ≡ n = omega arith in
        let g : pivot cw (suc (s / o)) ≤ pivot cw (suc (s / o) + (n - suc (s / o))) = pivot-up (suc (s / o)) (n - suc (s / o)) in
        let j = mapped-end s in
        le_trans j (rw e at g)
