-- Which RBSPs are small, by the head and the end that reading gives.
use mathlib.Core.Path.{◌≡◌, sym, ap, ◌∙◌}
use mathlib.Core.Bool.{false, not, ◌&&◌}
use mathlib.Core.List.{List}
use Prim.Native.Nat.{ℕ, ◌*◌, ◌<◌}
use borrow.Author.Tests.{lt-ltb}
use lib.Dec.{eqb}
use lib.ListN.{length}
use Rattle.bitstream.specs.Outcome.{value, refused, map_outcome}
use Rattle.aps.specs.Rbsp.{parse_aps_rbsp}
use Rattle.aps.specs.Reading.{head_of}
use Rattle.aps.specs.declared.aps.ApsHead.{ApsHead}
use Rattle.aps.specs.declared.aps.VvcAps.{VvcAps}
use Rattle.aps.proofs.Answers.{made, unmade}
use Rattle.small_sets.specs.Small.{ended_after, is_small}

module _ (s : List ℕ) where
  -- one that is too long is none
  pub long-none : 2048 < length s → is_small s ≡ false
  unfolding is_small parse_aps_rbsp
  long-none h = rw (lt-ltb 2048 (length s) h)

  -- one that is read, by its head
  pub read-is : (h : ApsHead) (q : ℕ) → value h q ≡ map_outcome head_of (parse_aps_rbsp s)
      → is_small s ≡ (not h.aps_extension_flag && eqb q (8 * length s))
  unfolding is_small
  read-is h q e = let m = made head_of (parse_aps_rbsp s) e in go m.from m.read m.is
    where
      go : (a : VvcAps) → parse_aps_rbsp s ≡ value a q → h ≡ head_of a → ended_after (length s) (parse_aps_rbsp s) ≡ (not h.aps_extension_flag && eqb q (8 * length s))
      go a r w = ap (ended_after (length s)) r ∙ ap (λ (x : ApsHead). not x.aps_extension_flag && eqb q (8 * length s)) (sym w)

  pub refused-none : (n : ℕ) → refused n ≡ map_outcome head_of (parse_aps_rbsp s) → is_small s ≡ false
  unfolding is_small
  refused-none n e = rw (unmade head_of (parse_aps_rbsp s) e)
