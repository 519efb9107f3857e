-- The state's numbers follow the scan of the bytes: each byte moves both alike, and gives the same units.
use Prim.Native.Nat.{ℕ, zero, suc, ◌≤◌}
use native.Mathlib.Omega.{arith}
use mathlib.Core.Path.{◌≡◌, refl, ap, ◌∙◌}
use mathlib.Core.Bool.{Bool, true, false, cond}
use lib.Dec.{eqb}
use mathlib.Core.List.{List, [], ◌∷◌, ◌++◌}
use Rattle.aps_table.specs.declared.table.Counts.{Counts}
use Rattle.recording.specs.declared.scan.Scan.{Scan}
use Rattle.recording.specs.declared.scan.Event.{Event}
use Rattle.recording.specs.declared.scan.Event.TheVariants.{Waits, Starts, Collects, Ends, Joins, Breaks}
use Rattle.recording.specs.declared.recording.Recording.{Recording}
use Rattle.recording.specs.Pieces.{State, outside, inside, broken, after, given, is_broken}
use Rattle.recording.specs.Collected.{up_to, Short, short, kept_verdict, kept_taken}
use Rattle.recording.specs.Recorded.{recorded, take_all}
use Rattle.recording.specs.Scanning.{event, two_of_next}
use Rattle.recording.specs.Feeding.{one_more, count_up, short_of, acted, acted_table, with_zeros}
use Rattle.recording.proofs.CollectLaws.{short-more, two_of, more}
use Rattle.recording.proofs.RecordedLaws.{kept-decides, kept-takes}
use Rattle.recording.proofs.PushLaws.{Roomy, zeros_then, roomy-zeros, zeros-more}
use Rattle.recording.proofs.EventLaws.{out, within, out-waits, out-breaks-0, out-breaks-1, out-starts, out-breaks-2, in-waits-0, in-waits-1, in-collects-0, in-collects-1, in-ends, in-joins, in-collects-2}

-- the scan's place in numbers, and what is collected of the unit
abbrev pub Like : State → Recording → Type 0
Like (outside z) r = r.scan ≡ out (two_of z)
Like (inside z u) r = (r.scan ≡ within z) × ((short_of r.unit ≡ short u) × (z ≤ 2))
Like broken r = r.scan.phase ≡ 2

-- units counted as far as 64 bits go
unfoldable pub counts_up : List (List ℕ) → Counts → Counts
counts_up [] c = c
counts_up (u ∷ us) c = counts_up us (count_up (recorded u) c)

-- what a byte that does e makes of state and table, where it takes the scan to q and gives the units us
pub record Acts (q : State) (us : List (List ℕ)) (r : Recording) (b : ℕ) (e : Event) : Type 0 where
  pub like : Like q (acted e b r)
  pub roomy : Roomy (acted e b r).unit
  pub counts : (acted e b r).counts ≡ counts_up us r.counts
  pub place : (acted e b r).place ≡ cond (is_broken q) r.place (one_more r.place)
  pub table : (t : List ℕ) → acted_table e r t ≡ take_all us t

-- the event that the numbers give
by : {q : State} {us : List (List ℕ)} {r : Recording} {b : ℕ} {s : Scan} (e : Event) → r.scan ≡ s → event s b ≡ e → Acts q us r b e → Acts q us r b (event r.scan b)
by {q} {us} {r} {b} {s} e f g a = rw (ap (λ (x : Scan). event x b) f ∙ g) a

-- a zero byte waits
waits : (p z : ℕ) (r : Recording) → r.scan ≡ record { phase = p; zeros = z } → ◌≡◌ {A = Scan} (record { phase = r.scan.phase; zeros = two_of_next r.scan.zeros }) (record { phase = p; zeros = two_of_next z })
waits p z r e = ap (λ (s : Scan). record { phase = s.phase; zeros = two_of_next s.zeros }) e

out-more : (z : ℕ) → two_of_next (two_of z) ≡ two_of (suc z)
out-more zero = refl
out-more (suc zero) = refl
out-more (suc (suc z)) = refl

next-most : (z : ℕ) → two_of_next z ≤ 2
next-most z = go (eqb z 0)
  where
    go : (t : Bool) → cond t 1 2 ≤ 2
    go true = omega arith
    go false = omega arith

-- nothing is collected of a unit that starts
none-short : (h : List ℕ) → short_of (record { size = 0; head = h }) ≡ short []
unfolding up_to
none-short h = refl

module _ (r : Recording) (w : Roomy r.unit) where
  -- ---- outside of a unit

  outside-zero : (z : ℕ) → r.scan ≡ out (two_of z) → Acts (outside (suc z)) [] r 0 (event r.scan 0)
  unfolding counts_up take_all
  outside-zero z e = by Waits e (out-waits (two_of z)) (record { like = waits 0 (two_of z) r e ∙ ap out (out-more z); roomy = w; counts = refl; place = refl; table = λ t. refl })

  breaks : (b : ℕ) (s : Scan) → r.scan ≡ s → event s b ≡ Breaks → Acts broken [] r b (event r.scan b)
  unfolding counts_up take_all
  breaks b s e f = by Breaks e f (record { like = refl; roomy = w; counts = refl; place = refl; table = λ t. refl })

  outside-starts : r.scan ≡ out 2 → Acts (inside 0 []) [] r 1 (event r.scan 1)
  unfolding counts_up take_all
  outside-starts e = by Starts e out-starts (record { like = (refl, (none-short r.unit.head, omega arith)); roomy = record { room = w.room; few = omega arith }; counts = refl; place = refl; table = λ t. refl })

  -- ---- in a unit

  module _ (u : List ℕ) (k : short_of r.unit ≡ short u) where
    inside-waits : (z : ℕ) → r.scan ≡ within z → event (within z) 0 ≡ Waits → Acts (inside (two_of_next z) u) [] r 0 (event r.scan 0)
    unfolding counts_up take_all
    inside-waits z e f = by Waits e f (record { like = (waits 1 z r e, (k, next-most z)); roomy = w; counts = refl; place = refl; table = λ t. refl })

    inside-collects : (z b : ℕ) → r.scan ≡ within z → event (within z) b ≡ Collects → Acts (inside 0 (u ++ zeros_then z b)) [] r b (event r.scan b)
    unfolding counts_up take_all
    inside-collects z b e f =
        let h : short_of (with_zeros r.scan.zeros b r.unit) ≡ short (u ++ zeros_then z b)
        = ap (λ (s : Scan). short_of (with_zeros s.zeros b r.unit)) e ∙ zeros-more z b r.unit w ∙ ap (λ (x : Short). more x (zeros_then z b)) k ∙ short-more u (zeros_then z b) in
        by Collects e f (record { like = (refl, (h, omega arith)); roomy = roomy-zeros r.scan.zeros b r.unit w; counts = refl; place = refl; table = λ t. refl })

    ended-counts : count_up (kept_verdict (short_of r.unit)) r.counts ≡ counts_up (u ∷ []) r.counts
    unfolding counts_up
    ended-counts = ap (λ (x : Short). count_up (kept_verdict x) r.counts) k ∙ ap (λ v. count_up v r.counts) (kept-decides u)

    ended-table : (t : List ℕ) → kept_taken (short_of r.unit) t ≡ take_all (u ∷ []) t
    unfolding take_all
    ended-table t = ap (λ (x : Short). kept_taken x t) k ∙ kept-takes u t

    inside-ends : (z : ℕ) → r.scan ≡ within (suc (suc z)) → Acts (outside 3) (u ∷ []) r 0 (event r.scan 0)
    inside-ends z e = by Ends e (in-ends z) (record { like = refl; roomy = w; counts = ended-counts; place = refl; table = ended-table })

    inside-joins : (z : ℕ) → r.scan ≡ within (suc (suc z)) → Acts (inside 0 []) (u ∷ []) r 1 (event r.scan 1)
    inside-joins z e = by Joins e (in-joins z) (record { like = (refl, (none-short r.unit.head, omega arith)); roomy = record { room = w.room; few = omega arith }; counts = ended-counts; place = refl; table = ended-table })

broken-stays : (r : Recording) (b : ℕ) → Roomy r.unit → r.scan.phase ≡ 2 → event r.scan b ≡ Breaks
unfolding event
broken-stays r b w e = at r.scan.phase r.scan.zeros e
  where
    at : (p z : ℕ) → p ≡ 2 → event (record { phase = p; zeros = z }) b ≡ Breaks
    at p z e = rw e refl

-- so a byte moves the state as it moves the scan
pub acts : (q : State) (r : Recording) (b : ℕ) → Like q r → Roomy r.unit → Acts (after q b) (given q b) r b (event r.scan b)
unfolding after given
acts (outside z) r zero e w = outside-zero r w z e
acts (outside zero) r (suc b) e w = breaks r w (suc b) (out 0) e (out-breaks-0 b)
acts (outside (suc zero)) r (suc b) e w = breaks r w (suc b) (out 1) e (out-breaks-1 b)
acts (outside (suc (suc z))) r (suc zero) e w = outside-starts r w e
acts (outside (suc (suc z))) r (suc (suc b)) e w = breaks r w (suc (suc b)) (out 2) e (out-breaks-2 2 b)
acts (inside zero u) r zero (e, (k, l)) w = inside-waits r w u k 0 e in-waits-0
acts (inside zero u) r (suc b) (e, (k, l)) w = inside-collects r w u k 0 (suc b) e (in-collects-0 b)
acts (inside (suc zero) u) r zero (e, (k, l)) w = inside-waits r w u k 1 e in-waits-1
acts (inside (suc zero) u) r (suc b) (e, (k, l)) w = inside-collects r w u k 1 (suc b) e (in-collects-1 b)
acts (inside (suc (suc z)) u) r zero (e, (k, l)) w = inside-ends r w u k z e
acts (inside (suc (suc z)) u) r (suc zero) (e, (k, l)) w = inside-joins r w u k z e
acts (inside (suc (suc z)) u) r (suc (suc b)) (e, (k, l)) w = inside-collects r w u k (suc (suc z)) (suc (suc b)) e (in-collects-2 (suc (suc z)) b)
acts broken r b e w = breaks r w b r.scan refl (broken-stays r b w e)
