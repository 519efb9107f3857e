-- The refusals in their order: each test decides the answer, whatever component is asked for.
use mathlib.Core.Path.{◌≡◌, refl, sym, ap}
use mathlib.Core.Bool.{Bool, true, false, cond}
use Prim.Native.Nat.{ℕ, ◌≤◌}
use borrow.Author.Tests.{leb-true}
use lib.Dec.{leb}
use Rattle.std.specs.Prelude.{Result, Ok, Err, is_ok}
use Rattle.aps.specs.Writing.{fit}
use Rattle.aps.specs.declared.aps.ApsKind.{ApsKind}
use Rattle.aps.specs.declared.aps.VvcAps.{VvcAps}
use Rattle.aps.proofs.CodecLaws.{and_left, and_right, never_true}
use Rattle.alf_filters.specs.Answers.{asked, is_depth}

module _ {A : Type 0} (a : VvcAps) (allowed : Bool) (otherwise : ℕ) (sent : Bool) (x : A) where
  pub asked-unfit : fit ApsKind.Alf a ≡ false → Err 2 ≡ asked a allowed otherwise sent x
  unfolding asked
  asked-unfit f = rw f refl

  module _ (f : fit ApsKind.Alf a ≡ true) where
    pub asked-forbidden : allowed ≡ false → Err otherwise ≡ asked a allowed otherwise sent x
    unfolding asked
    asked-forbidden w = rw (f, w) refl

    pub asked-unsent : allowed ≡ true → sent ≡ false → Err 8 ≡ asked a allowed otherwise sent x
    unfolding asked
    asked-unsent w s = rw (f, w, s) refl

    pub asked-given : allowed ≡ true → sent ≡ true → Ok x ≡ asked a allowed otherwise sent x
    unfolding asked
    asked-given w s = rw (f, w, s) refl

-- what is refused of no component is refused of each
pub asked-refused : {A : Type 0} (a : VvcAps) (allowed : Bool) (otherwise : ℕ) (sent : Bool) (x : A) (e : ℕ)
    → Err e ≡ asked a allowed otherwise sent (tt {0}) → Err e ≡ asked a allowed otherwise sent x
unfolding asked
asked-refused {A} a allowed otherwise sent x e = go (fit ApsKind.Alf a) allowed sent
  where
    go : (f w s : Bool) → ◌≡◌ {A = Result (Unit {0}) ℕ} (Err e) (cond f (cond w (cond s (Ok tt) (Err 8)) (Err otherwise)) (Err 2))
        → ◌≡◌ {A = Result A ℕ} (Err e) (cond f (cond w (cond s (Ok x) (Err 8)) (Err otherwise)) (Err 2))
    go false w s h = let i : e ≡ 2 = cc in ap Err i
    go true false s h = let i : e ≡ otherwise = cc in ap Err i
    go true true false h = let i : e ≡ 8 = cc in ap Err i
    go true true true h = never_true (ap is_ok h)

-- what is not refused passed each test
pub asked-passed : (a : VvcAps) (allowed : Bool) (otherwise : ℕ) (sent : Bool) → Ok (tt {0}) ≡ asked a allowed otherwise sent (tt {0})
    → (fit ApsKind.Alf a ≡ true) × (allowed ≡ true) × (sent ≡ true)
unfolding asked
asked-passed a allowed otherwise sent = go (fit ApsKind.Alf a) allowed sent
  where
    go : (f w s : Bool) → ◌≡◌ {A = Result (Unit {0}) ℕ} (Ok tt) (cond f (cond w (cond s (Ok tt) (Err 8)) (Err otherwise)) (Err 2))
        → (f ≡ true) × (w ≡ true) × (s ≡ true)
    go false w s h = never_true (ap is_ok (sym h))
    go true false s h = never_true (ap is_ok (sym h))
    go true true false h = never_true (ap is_ok (sym h))
    go true true true h = (refl, refl, refl)

-- a depth that is taken
pub depth-within : (depth : ℕ) → is_depth depth ≡ true → (8 ≤ depth) × (depth ≤ 12)
unfolding is_depth
depth-within depth e = (leb-true 8 depth (and_left (leb 8 depth) (leb depth 12) e), leb-true depth 12 (and_right (leb 8 depth) (leb depth 12) e))
