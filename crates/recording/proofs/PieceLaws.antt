-- The scan byte by byte gives the split's units, and breaks at the first byte that may not stand where it stands.
use Prim.Native.Nat.{ℕ, zero, suc, ◌+◌, ◌-◌, ◌<◌, ◌≤◌}
use mathlib.Core.Path.{◌≡◌, refl, sym, ap, ◌∙◌}
use mathlib.Core.Bool.{Bool, true, false, false≢true}
use mathlib.Core.List.{List, [], ◌∷◌, ◌++◌, append-nil, append_assoc}
use mathlib.Core.Option.{none, some}
use native.Mathlib.Omega.{arith}
use borrow.Author.Tests.{ltb-true, ltb-false}
use lib.Dec.{ltb}
use lib.Seq.{take-add}
use lib.ListN.{length, take, drop}
use Rattle.aps_table.specs.Split.{Units, prepend, ended, gap, body, split}
use Rattle.aps_table.proofs.SplitLaws.{prepend-nil, prepend-prepend}
use Rattle.recording.specs.Pieces.{State, outside, inside, broken, after, given, feed, emits, pending, is_broken, start, whole, good_step, good_from}

-- ---- cuts

pub feed-append : (q : State) (a b : List ℕ) → feed q (a ++ b) ≡ feed (feed q a) b
unfolding feed
feed-append q [] b = refl
feed-append q (x ∷ a) b = feed-append (after q x) a b

pub emits-append : (q : State) (a b : List ℕ) → emits q (a ++ b) ≡ emits q a ++ emits (feed q a) b
unfolding feed emits
emits-append q [] b = refl
emits-append q (x ∷ a) b = rw (emits-append (after q x) a b, append_assoc)

-- ---- the split

-- a unit in front
front : List ℕ → Units → Units
front v none = none
front v (some us) = some (v ∷ us)

whole-front : (v : List ℕ) (q : State) (us : List (List ℕ)) → whole q (v ∷ us) ≡ front v (whole q us)
unfolding front
whole-front v (outside z) us = refl
whole-front v (inside z u) us = refl
whole-front v broken us = refl

prepend-ended : (v : List ℕ) (r : Units) → prepend v (ended r) ≡ front v r
unfolding front
prepend-ended v none = refl
prepend-ended v (some us) = rw append-nil

pub broken-stays : (s : List ℕ) → feed broken s ≡ broken
unfolding feed after
broken-stays [] = refl
broken-stays (b ∷ s) = broken-stays s

pub broken-emits : (s : List ℕ) → emits broken s ≡ []
unfolding emits after given
broken-emits [] = refl
broken-emits (b ∷ s) = broken-emits s

abbrev Fed : State → List ℕ → Units
Fed q s = whole (feed q s) (emits q s)

broken-none : (s : List ℕ) → none ≡ Fed broken s
broken-none s = rw (broken-stays s)

mutual
  unfolding gap body feed emits after given

  gap-fed : (s : List ℕ) (z : ℕ) → gap z s ≡ Fed (outside z) s
  gap-fed [] z = refl
  gap-fed (zero ∷ s) z = gap-fed s (suc z)
  gap-fed (suc b ∷ s) zero = broken-none s
  gap-fed (suc b ∷ s) (suc zero) = broken-none s
  gap-fed (suc zero ∷ s) (suc (suc z)) = sym (prepend-nil (body 0 s)) ∙ body-fed s 0 []
  gap-fed (suc (suc b) ∷ s) (suc (suc z)) = broken-none s

  body-fed : (s : List ℕ) (z : ℕ) (u : List ℕ) → prepend u (body z s) ≡ Fed (inside z u) s
  body-fed [] z u = rw append-nil
  body-fed (zero ∷ s) zero u = body-fed s 1 u
  body-fed (suc b ∷ s) zero u = prepend-prepend u (suc b ∷ []) (body 0 s) ∙ body-fed s 0 (u ++ (suc b ∷ []))
  body-fed (zero ∷ s) (suc zero) u = body-fed s 2 u
  body-fed (suc b ∷ s) (suc zero) u = prepend-prepend u (0 ∷ suc b ∷ []) (body 0 s) ∙ body-fed s 0 (u ++ (0 ∷ suc b ∷ []))
  body-fed (zero ∷ s) (suc (suc z)) u = prepend-ended u (gap 3 s) ∙ ap (front u) (gap-fed s 3) ∙ sym (whole-front u (feed (outside 3) s) (emits (outside 3) s))
  body-fed (suc zero ∷ s) (suc (suc z)) u = prepend-ended u (body 0 s) ∙ ap (front u) (sym (prepend-nil (body 0 s)) ∙ body-fed s 0 []) ∙ sym (whole-front u (feed (inside 0 []) s) (emits (inside 0 []) s))
  body-fed (suc (suc b) ∷ s) (suc (suc z)) u = prepend-prepend u (0 ∷ 0 ∷ suc (suc b) ∷ []) (body 0 s) ∙ body-fed s 0 (u ++ (0 ∷ 0 ∷ suc (suc b) ∷ []))

-- the split of a whole is what feeding it and closing give
pub split-fed : (s : List ℕ) → split s ≡ whole (feed start s) (emits start s)
split-fed s = gap-fed s 0

whole-some : (q : State) (us vs : List (List ℕ)) → whole q us ≡ some vs → (is_broken q ≡ false) × (us ++ pending q ≡ vs)
whole-some (outside z) us vs e = (refl, append-nil us ∙ cc)
whole-some (inside z u) us vs e = (refl, cc)
whole-some broken us vs e = cc

whole-none : (q : State) (us : List (List ℕ)) → whole q us ≡ none → q ≡ broken
whole-none (outside z) us e = cc
whole-none (inside z u) us e = cc
whole-none broken us e = refl

whole-closed : (q : State) (us : List (List ℕ)) → is_broken q ≡ false → pending q ≡ [] → whole q us ≡ some us
whole-closed (outside z) us h e = refl
whole-closed (inside z u) us h e = cc
whole-closed broken us h e = absurd (false≢true (sym h))

-- where the split holds
pub split-held : (s : List ℕ) (us : List (List ℕ)) → split s ≡ some us → (is_broken (feed start s) ≡ false) × (emits start s ++ pending (feed start s) ≡ us)
split-held s us e = whole-some (feed start s) (emits start s) us (sym (split-fed s) ∙ e)

-- ---- the first byte that may not stand where it stands

pub broken-is : (q : State) → is_broken q ≡ true → q ≡ broken
broken-is (outside z) e = absurd (false≢true e)
broken-is (inside z u) e = absurd (false≢true e)
broken-is broken e = refl

-- it ends no unit, and none is pending before it
pub breaks-outside : (q : State) (b : ℕ) → is_broken q ≡ false → is_broken (after q b) ≡ true → (given q b ≡ []) × (pending q ≡ [])
unfolding after given
breaks-outside (outside z) b h e = (refl, refl)
breaks-outside (inside zero u) zero h e = absurd (false≢true e)
breaks-outside (inside zero u) (suc b) h e = absurd (false≢true e)
breaks-outside (inside (suc zero) u) zero h e = absurd (false≢true e)
breaks-outside (inside (suc zero) u) (suc b) h e = absurd (false≢true e)
breaks-outside (inside (suc (suc z)) u) zero h e = absurd (false≢true e)
breaks-outside (inside (suc (suc z)) u) (suc zero) h e = absurd (false≢true e)
breaks-outside (inside (suc (suc z)) u) (suc (suc b)) h e = absurd (false≢true e)
breaks-outside broken b h e = absurd (false≢true (sym h))

record Breaks (q : State) (s : List ℕ) (n : ℕ) : Type 0 where
  within : n < length s
  before : is_broken (feed q (take n s)) ≡ false
  here : feed q (take (suc n) s) ≡ broken
  units : emits q s ≡ emits q (take n s)
  nothing : pending (feed q (take n s)) ≡ []

breaks-step : (q : State) (b : ℕ) (s : List ℕ) → is_broken q ≡ false → (t : Bool) → is_broken (after q b) ≡ t
    → (is_broken (after q b) ≡ false → Breaks (after q b) s (good_from (after q b) s)) → Breaks q (b ∷ s) (good_step t (good_from (after q b) s))
unfolding feed emits
breaks-step q b s h true e r =
    let o = breaks-outside q b h e in
    let p : after q b ≡ broken = broken-is (after q b) e in
    record { within = omega arith; before = h; here = p; units = rw (o.0, p) (broken-emits s); nothing = o.1 }
breaks-step q b s h false e r =
    let k = r e in
    record { within = omega (arith, k.within); before = k.before; here = k.here; units = ap (λ (l : List (List ℕ)). given q b ++ l) k.units; nothing = k.nothing }

breaks : (q : State) (s : List ℕ) → is_broken q ≡ false → feed q s ≡ broken → Breaks q s (good_from q s)
unfolding feed good_from
breaks q [] h e = absurd (false≢true (sym h ∙ ap is_broken e))
breaks q (b ∷ s) h e = breaks-step q b s h (is_broken (after q b)) refl (λ k. breaks (after q b) s k e)

-- where the split does not hold: n bytes stand before the first that may not
pub record Refused (s : List ℕ) (n : ℕ) : Type 0 where
  pub state : feed start s ≡ broken
  pub within : n < length s
  pub units : split (take n s) ≡ some (emits start s)
  pub here : split (take (suc n) s) ≡ none
  pub first : (m : ℕ) → split (take m s) ≡ none → n < m

-- no longer split holds where a shorter one does not
pub none-stays : (a b : List ℕ) → split a ≡ none → split (a ++ b) ≡ none
none-stays a b e =
    let p : feed start a ≡ broken = whole-none (feed start a) (emits start a) (sym (split-fed a) ∙ e) in
    let q : feed start (a ++ b) ≡ broken = feed-append start a b ∙ ap (λ (q : State). feed q b) p ∙ broken-stays b in
    split-fed (a ++ b) ∙ rw q

some-none : {us : List (List ℕ)} → some us ≡ none → ⊥
some-none e = cc

not-before : (s : List ℕ) (n m : ℕ) (us : List (List ℕ)) → split (take n s) ≡ some us → split (take m s) ≡ none → n < m
not-before s n m us g e = go (ltb n m) refl
  where
    go : (t : Bool) → ltb n m ≡ t → n < m
    go true q = omega (arith, ltb-true n m q)
    go false q =
        let l : m ≤ n = omega (arith, ltb-false n m q) in
        let k : n ≡ m + (n - m) = omega arith in
        let w : take n s ≡ take m s ++ take (n - m) (drop m s) = ap (λ (i : ℕ). take i s) k ∙ take-add m (n - m) s in
        let c : split (take n s) ≡ none = ap (λ (l : List ℕ). split l) w ∙ none-stays (take m s) (take (n - m) (drop m s)) e in
        absurd (some-none (sym g ∙ c))

pub split-refused : (s : List ℕ) → split s ≡ none → Refused s (good_from start s)
split-refused s e =
    let p : feed start s ≡ broken = whole-none (feed start s) (emits start s) (sym (split-fed s) ∙ e) in
    let k = breaks start s refl p in
    let n = good_from start s in
    let good : split (take n s) ≡ some (emits start s) = split-fed (take n s) ∙ rw k.units (whole-closed (feed start (take n s)) (emits start (take n s)) k.before k.nothing) in
    record {
      state = p;
      within = k.within;
      units = good;
      here = split-fed (take (suc n) s) ∙ rw k.here;
      first = λ m z. not-before s n m (emits start s) good z;
    }
