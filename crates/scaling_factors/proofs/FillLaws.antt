-- The factors of a set, id after id: what an id is predicted from is there when its turn comes.
use mathlib.Core.Path.{◌≡◌, refl, sym, ap, ◌∙◌}
use mathlib.Core.Bool.{Bool, true, false, cond}
use mathlib.Core.List.{List}
use Prim.Native.Nat.{ℕ, ◌+◌, ◌*◌, ◌-◌, ◌/◌, ◌%◌, ◌≤◌, ◌<◌}
use native.Mathlib.Nat.{zero-add}
use native.Mathlib.Omega.{arith}
use borrow.Author.Tests.{ltb-true, ltb-false, eqb-true, eqb-false, lt-ltb, le-ltb}
use lib.Dec.{ltb, eqb}
use lib.IntN.{ℤ, pos}
use lib.ListN.{length, get_or, take, drop, replicate, length-replicate, length-drop}
use lib.Seq.{length-take-le, get_or-take, get_or-drop}
use borrow.Rule.Slice.PartMut.{put_mid}
use Rattle.std.proofs.lemmas.List.{get_or-replicate, get_or_past}
use Rattle.std.proofs.lemmas.Grind.{same_number_lists}
use Rattle.aps.specs.ScalingSyntax.{matrix_size, entries, max_id_delta, tabulate}
use Rattle.aps.specs.declared.scaling_list.VvcScalingListData.{VvcScalingListData}
use Rattle.aps.proofs.KeepLaws.{length-tabulate, tabulate-at}
use Rattle.aps.proofs.ScalingLaws.{entries-le, max_id_delta-le}
use Rattle.scaling_factors.specs.declared.source.Prediction.TheVariants.{Value, Earlier}
use Rattle.scaling_factors.specs.Factors.{byte_of, copied, refers, delta, predicted, counted, factor}
use Rattle.scaling_factors.specs.Answers.{flat}
use Rattle.scaling_factors.specs.Inner.{predicted_from, DeltasFit, Built, Laid, Added, reach, forecast}
use Rattle.scaling_factors.proofs.PartLaws.{put-laid, laid-same, laid-twice}
use Rattle.scaling_factors.proofs.FactorLaws.{predicted-none, step-back, factor-is}

-- ---- sizes

-- an id and the one that it refers to have matrices of one size
pub same-size : (id back : ℕ) → back ≤ max_id_delta id → entries (id - back) ≡ entries id
unfolding matrix_size entries max_id_delta
same-size id back h = go (ltb id 2) refl (ltb id 8) refl
  where
    go : (a : Bool) → ltb id 2 ≡ a → (b : Bool) → ltb id 8 ≡ b → entries (id - back) ≡ entries id
    go true e b f = rw (lt-ltb (id - back) 2 (omega (arith, ltb-true id 2 e)), e)
    go false e true f =
        let l : back ≤ id - 2 = rw (e, f) at h in
        rw (le-ltb (id - back) 2 (omega (arith, ltb-false id 2 e)), lt-ltb (id - back) 8 (omega (arith, ltb-true id 8 f)), e, f)
    go false e false f =
        let l : back ≤ id - 8 = rw (e, f) at h in
        rw (le-ltb (id - back) 2 (omega (arith, ltb-false id 8 f)), le-ltb (id - back) 8 (omega (arith, ltb-false id 8 f)), e, f)

-- a list of zeros
pub zeros : (n k : ℕ) → get_or (replicate {A = ℕ} n 0) k 0 ≡ 0
zeros n k = go (ltb k n) refl
  where
    go : (b : Bool) → ltb k n ≡ b → get_or (replicate {A = ℕ} n 0) k 0 ≡ 0
    go true e = get_or-replicate n k 0 0 (ltb-true k n e)
    go false e = get_or_past (replicate {A = ℕ} n 0) k 0 (omega (arith, ltb-false k n e, length-replicate {A = ℕ} n 0))

-- what is predicted by cases
forecast-cases : (r z : Bool) (n : ℕ) (o : List ℕ) (j : ℕ) → forecast (cond r (cond z (Value 16) (Earlier n)) (Value 8)) o j ≡ cond r (cond z 16 (get_or o (j - 64 * n) 0)) 8
forecast-cases true true n o j = refl
forecast-cases true false n o j = refl
forecast-cases false z n o j = refl

reach-cases : (r z : Bool) (n : ℕ) → reach (cond r (cond z (Value 16) (Earlier n)) (Value 8)) ≤ n
reach-cases true true n = omega arith
reach-cases true false n = omega arith
reach-cases false z n = omega arith

small-cases : (r z : Bool) (a : ℕ) → a < 256 → cond r (cond z 16 a) 8 < 256
small-cases true true a h = omega arith
small-cases true false a h = h
small-cases false z a h = omega arith

module _ (chroma : Bool) (d : VvcScalingListData) where
  -- ---- an id's factor, of a copy and of a list

  pub predicted-small : (id a : ℕ) → a < 256 → predicted chroma d id a < 256
  unfolding predicted
  predicted-small id a h = small-cases _ _ a h

  pub factor-small : (id i : ℕ) → factor chroma d id i < 256
  factor-small id i = omega (arith, factor-is chroma d id i)

  pub counted-copy : (id : ℕ) (z : ℤ) → copied chroma d id ≡ true → counted chroma d id z ≡ 0
  unfolding counted
  counted-copy id z e = rw e

  pub counted-list : (id : ℕ) (z : ℤ) → copied chroma d id ≡ false → counted chroma d id z ≡ byte_of z
  unfolding counted
  counted-list id z e = rw e

  pub factor-copy : (id i : ℕ) → copied chroma d id ≡ true → predicted chroma d id (factor chroma d (id - delta chroma d id) i) ≡ factor chroma d id i
  factor-copy id i e =
      let p : ℕ = predicted chroma d id (factor chroma d (id - delta chroma d id) i) in
      let s : p < 256 = predicted-small id _ (factor-small (id - delta chroma d id) i) in
      let z = counted-copy id (get_or d.scaling_list (64 * id + i) (pos 0)) e in
      let m : p ≡ (p + 0) % 256 = omega arith in
      m ∙ sym (rw z at (factor-is chroma d id i))

  pub factor-list : (id i : ℕ) → copied chroma d id ≡ false
      → (predicted chroma d id (factor chroma d (id - delta chroma d id) i) + byte_of (get_or d.scaling_list (64 * id + i) (pos 0))) % 256 ≡ factor chroma d id i
  factor-list id i e =
      let z = counted-list id (get_or d.scaling_list (64 * id + i) (pos 0)) e in
      sym (rw z at (factor-is chroma d id i))

  -- ---- the flat array

  -- place 64 * id + i of it, within the matrix and past it
  pub flat-in : (j id i : ℕ) → j ≡ 64 * id + i → i < entries id → flat chroma d j ≡ factor chroma d id i
  unfolding flat
  flat-in j id i e k =
      let n = entries-le id in
      let a : j / 64 ≡ id = omega arith in
      let b : j % 64 ≡ i = omega arith in
      rw (a, b, lt-ltb i (entries id) k)

  pub flat-out : (j id i : ℕ) → j ≡ 64 * id + i → i < 64 → entries id ≤ i → flat chroma d j ≡ 0
  unfolding flat
  flat-out j id i e h k =
      let a : j / 64 ≡ id = omega arith in
      let b : j % 64 ≡ i = omega arith in
      rw (a, b, le-ltb i (entries id) k)

  -- ---- one id

  -- a prediction goes back to an id that is there
  pub reach-id : DeltasFit chroma d → (id : ℕ) → id < 28 → reach (predicted_from chroma d id) ≤ id
  unfolding predicted_from
  reach-id fit id h = omega (arith, reach-cases (refers chroma d id) (eqb (delta chroma d id) 0) (delta chroma d id), fit.fits id h, max_id_delta-le id)

  module _ (fit : DeltasFit chroma d) (id : ℕ) (h : id < 28) (o : List ℕ) (u : Built chroma d id o) where
    -- what is predicted from the factors that are there
    pub forecast-is : (i : ℕ) → i < entries id → forecast (predicted_from chroma d id) o (64 * id + i) ≡ predicted chroma d id (factor chroma d (id - delta chroma d id) i)
    unfolding predicted_from predicted
    forecast-is i k =
        forecast-cases (refers chroma d id) (eqb (delta chroma d id) 0) (delta chroma d id) o (64 * id + i) ∙ go (eqb (delta chroma d id) 0) refl
      where
        go : (t : Bool) → eqb (delta chroma d id) 0 ≡ t
            → predicted chroma d id (get_or o (64 * id + i - 64 * delta chroma d id) 0) ≡ predicted chroma d id (factor chroma d (id - delta chroma d id) i)
        go true e = predicted-none chroma d id _ _ (eqb-true (delta chroma d id) 0 e)
        go false e =
            let b = step-back chroma d id (eqb-false (delta chroma d id) 0 e) in
            let n = same-size id (delta chroma d id) (fit.fits id h) in
            let l = max_id_delta-le id in
            let m = fit.fits id h in
            let z = entries-le id in
            let q : 64 * id + i - 64 * delta chroma d id ≡ 64 * (id - delta chroma d id) + i = omega arith in
            ap (predicted chroma d id)
            (ap (λ x. get_or o x 0) q ∙ u.done (64 * (id - delta chroma d id) + i) (omega arith)
            ∙ flat-in (64 * (id - delta chroma d id) + i) (id - delta chroma d id) i refl (omega arith))

  pub built-none : (n : ℕ) → n ≡ 1792 → Built chroma d 0 (replicate n 0)
  built-none n e = record { size = length-replicate {A = ℕ} n 0 ∙ e; done = λ j h. absurd (omega arith); rest = λ j h. zeros n j }

  -- its factors are put in their places
  pub built-more : {id : ℕ} {o q : List ℕ} → Built chroma d id o → Laid (64 * id) (entries id) (factor chroma d id) o q → Built chroma d (id + 1) q
  built-more {id} {o} {q} u f =
      record {
        size = f.size ∙ u.size;
        done = λ j k. old j k (ltb j (64 * id)) refl;
        rest = λ j k. f.above j (omega (arith, entries-le id)) ∙ u.rest j (omega arith);
      }
    where
      own : (j : ℕ) → j < 64 * (id + 1) → 64 * id ≤ j → (t : Bool) → ltb (j - 64 * id) (entries id) ≡ t → get_or q j 0 ≡ flat chroma d j
      own j k l true e =
          let n = ltb-true (j - 64 * id) (entries id) e in
          let a : j ≡ 64 * id + (j - 64 * id) = omega arith in
          ap (λ x. get_or q x 0) a ∙ f.new (j - 64 * id) n ∙ sym (flat-in j id (j - 64 * id) a n)
      own j k l false e =
          let n = ltb-false (j - 64 * id) (entries id) e in
          f.above j (omega arith) ∙ u.rest j l ∙ sym (flat-out j id (j - 64 * id) (omega arith) (omega arith) n)

      old : (j : ℕ) → j < 64 * (id + 1) → (t : Bool) → ltb j (64 * id) ≡ t → get_or q j 0 ≡ flat chroma d j
      old j k true e = let l = ltb-true j (64 * id) e in f.below j l ∙ u.done j l
      old j k false e = let l = ltb-false j (64 * id) e in own j k l (ltb (j - 64 * id) (entries id)) refl

  module _ (fit : DeltasFit chroma d) (id : ℕ) (h : id < 28) {o m : List ℕ} (u : Built chroma d id o)
      (l : Laid (64 * id) (entries id) (λ i. forecast (predicted_from chroma d id) o (64 * id + i)) o m) where
    laid-predicted : Laid (64 * id) (entries id) (λ i. predicted chroma d id (factor chroma d (id - delta chroma d id) i)) o m
    laid-predicted = laid-same l (forecast-is fit id h o u)

    -- of a copy the predictions are the factors
    pub copy-built : copied chroma d id ≡ true → Built chroma d (id + 1) m
    copy-built e = built-more u (laid-same laid-predicted (λ i b. factor-copy id i e))

    -- of a list the entries are added to them
    pub list-built : {k n : ℕ} {row : List ℕ} → copied chroma d id ≡ false → k ≡ entries id → n ≡ length (take k (drop (64 * id) m))
        → Added (take k (drop (64 * id) d.scaling_list)) n (take k (drop (64 * id) m)) row → Built chroma d (id + 1) (put_mid (64 * id) k m row)
    list-built {k} {n} {row} e s t a =
        built-more u (laid-twice laid-predicted (laid-same (put-laid m row (64 * id) k (entries id) s (a.size ∙ long ∙ s) (omega (arith, z, size))) sums))
      where
        z : entries id ≤ 64
        z = entries-le id

        size : length m ≡ 1792
        size = l.size ∙ u.size

        long : length (take k (drop (64 * id) m)) ≡ k
        long = length-take-le k (drop (64 * id) m) (omega (arith, z, s, size, length-drop (64 * id) m))

        sums : (i : ℕ) → i < entries id → get_or row i 0 ≡ factor chroma d id i
        sums i b =
            let before : get_or (take k (drop (64 * id) m)) i 0 ≡ get_or m (64 * id + i) 0
            = get_or-take k (drop (64 * id) m) i 0 (omega (arith, s)) ∙ get_or-drop (64 * id) m i 0 in
            let entry : get_or (take k (drop (64 * id) d.scaling_list)) i (pos 0) ≡ get_or d.scaling_list (64 * id + i) (pos 0)
            = get_or-take k (drop (64 * id) d.scaling_list) i (pos 0) (omega (arith, s)) ∙ get_or-drop (64 * id) d.scaling_list i (pos 0) in
            let sum = a.sums i (omega (arith, t, long, s)) in
            (rw (before, entry, laid-predicted.new i b) at sum) ∙ factor-list id i e

  -- all ids
  pub built-all : {id : ℕ} {o : List ℕ} → 28 ≤ id → Built chroma d id o → o ≡ tabulate 0 1792 (flat chroma d)
  built-all {id} {o} h u =
      same_number_lists o (tabulate 0 1792 (flat chroma d)) (u.size ∙ sym (length-tabulate 0 1792 (flat chroma d)))
      (λ k b. u.done k (omega (arith, u.size)) ∙ sym (tabulate-at 0 1792 (flat chroma d) k 0 (omega (arith, u.size)) ∙ ap (flat chroma d) (zero-add k)))
