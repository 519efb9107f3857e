-- The units of a recording are no longer and no more than its bytes.
use Prim.Native.Nat.{ℕ, zero, suc, ◌+◌, ◌≤◌}
use mathlib.Core.Path.{◌≡◌}
use mathlib.Core.List.{List, [], ◌∷◌, ◌++◌, append_assoc}
use native.Mathlib.Omega.{arith}
use lib.ListN.{length, length-append}
use Rattle.aps_table.specs.Taking.{Verdict, accept, pass, damage, refuse, count}
use Rattle.aps_table.specs.declared.table.Counts.{Counts}
use Rattle.recording.specs.Pieces.{State, outside, inside, broken, after, given, feed, emits, pending, start}
use Rattle.recording.specs.Recorded.{recorded, count_all}
use Rattle.recording.specs.Feeding.{capped}
use Rattle.recording.proofs.CollectLaws.{up-under}

-- ---- how long

-- each unit is of at most n bytes
unfoldable pub Below : ℕ → List (List ℕ) → Type 0
Below n [] = Unit {0}
Below n (u ∷ us) = (length u ≤ n) × Below n us

below-append : (n : ℕ) (us vs : List (List ℕ)) → Below n us → Below n vs → Below n (us ++ vs)
unfolding Below
below-append n [] vs a b = b
below-append n (u ∷ us) vs a b = (a.0, below-append n us vs a.1 b)

pub below-more : (n m : ℕ) (us : List (List ℕ)) → n ≤ m → Below n us → Below m us
unfolding Below
below-more n m [] h a = tt
below-more n m (u ∷ us) h a = (omega (arith, a.0), below-more n m us h a.1)

-- the bytes of the pending unit, with the zero bytes that wait
weight : State → ℕ
weight (outside z) = 0
weight (inside z u) = length u + z
weight broken = 0

weight-after : (q : State) (b : ℕ) → weight (after q b) ≤ weight q + 1
unfolding after weight
weight-after (outside z) zero = omega arith
weight-after (outside zero) (suc b) = omega arith
weight-after (outside (suc zero)) (suc b) = omega arith
weight-after (outside (suc (suc z))) (suc zero) = omega arith
weight-after (outside (suc (suc z))) (suc (suc b)) = omega arith
weight-after (inside zero u) zero = omega arith
weight-after (inside zero u) (suc b) = omega (arith, length-append u (suc b ∷ []))
weight-after (inside (suc zero) u) zero = omega arith
weight-after (inside (suc zero) u) (suc b) = omega (arith, length-append u (0 ∷ suc b ∷ []))
weight-after (inside (suc (suc z)) u) zero = omega arith
weight-after (inside (suc (suc z)) u) (suc zero) = omega arith
weight-after (inside (suc (suc z)) u) (suc (suc b)) = omega (arith, length-append u (0 ∷ 0 ∷ suc (suc b) ∷ []))
weight-after broken b = omega arith

given-below : (q : State) (b : ℕ) → Below (weight q) (given q b)
unfolding given weight Below
given-below (outside z) b = tt
given-below (inside zero u) b = tt
given-below (inside (suc zero) u) b = tt
given-below (inside (suc (suc z)) u) zero = (omega arith, tt)
given-below (inside (suc (suc z)) u) (suc zero) = (omega arith, tt)
given-below (inside (suc (suc z)) u) (suc (suc b)) = tt
given-below broken b = tt

pending-below : (q : State) → Below (weight q) (pending q)
unfolding weight Below
pending-below (outside z) = tt
pending-below (inside z u) = (omega arith, tt)
pending-below broken = tt

units-below : (s : List ℕ) (q : State) → Below (weight q + length s) (emits q s ++ pending (feed q s))
unfolding feed emits
units-below [] q = below-more (weight q) (weight q + 0) (pending q) (omega arith) (pending-below q)
units-below (b ∷ s) q =
    rw append_assoc
    (below-append (weight q + suc (length s)) (given q b) (emits (after q b) s ++ pending (feed (after q b) s))
    (below-more (weight q) (weight q + suc (length s)) (given q b) (omega arith) (given-below q b))
    (below-more (weight (after q b) + length s) (weight q + suc (length s)) (emits (after q b) s ++ pending (feed (after q b) s)) (omega (arith, weight-after q b)) (units-below s (after q b))))

pub whole-below : (s : List ℕ) → Below (length s) (emits start s ++ pending (feed start s))
unfolding weight
whole-below s = below-more (0 + length s) (length s) (emits start s ++ pending (feed start s)) (omega arith) (units-below s start)

-- ---- how many

given-few : (q : State) (b : ℕ) → length (given q b) ≤ 1
unfolding given
given-few (outside z) b = omega arith
given-few (inside zero u) b = omega arith
given-few (inside (suc zero) u) b = omega arith
given-few (inside (suc (suc z)) u) zero = omega arith
given-few (inside (suc (suc z)) u) (suc zero) = omega arith
given-few (inside (suc (suc z)) u) (suc (suc b)) = omega arith
given-few broken b = omega arith

pub units-few : (s : List ℕ) (q : State) → length (emits q s) ≤ length s
unfolding emits
units-few [] q = omega arith
units-few (b ∷ s) q = omega (arith, length-append (given q b) (emits (after q b) s), given-few q b, units-few s (after q b))

abbrev total : Counts → ℕ
total c = c.accepted + (c.refused + c.passed)

count-total : (v : Verdict) (c : Counts) → total (count v c) ≡ total c + 1
count-total (accept x q) c = omega arith
count-total pass c = omega arith
count-total (damage k i n) c = omega arith
count-total (refuse n) c = omega arith

counts-total : (us : List (List ℕ)) (c : Counts) → total (count_all us c) ≡ total c + length us
unfolding count_all
counts-total [] c = omega arith
counts-total (u ∷ us) c = omega (arith, count-total (recorded u) c, counts-total us (count (recorded u) c))

-- so many fit
pub counts-exact : (us : List (List ℕ)) (c : Counts) → total c + length us ≤ 18446744073709551615 → capped (count_all us c) ≡ count_all us c
counts-exact us c h =
    let d = count_all us c in
    let t = counts-total us c in
    same d.accepted d.refused d.passed (up-under 18446744073709551615 d.accepted (omega arith)) (up-under 18446744073709551615 d.refused (omega arith)) (up-under 18446744073709551615 d.passed (omega arith))
  where
    same : (x y z : ℕ) {x' y' z' : ℕ} → x' ≡ x → y' ≡ y → z' ≡ z → ◌≡◌ {A = Counts} (record { accepted = x'; refused = y'; passed = z' }) (record { accepted = x; refused = y; passed = z })
    same x y z e f g = rw (e, f, g)
