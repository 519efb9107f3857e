-- What is kept of a unit is taken in one of three ways.
use mathlib.Core.Path.{◌≡◌, refl}
use mathlib.Core.Bool.{true, false}
use mathlib.Core.List.{List}
use Prim.Native.Nat.{ℕ, ◌<◌, ◌≤◌}
use borrow.Author.Tests.{lt-ltb, le-ltb}
use Rattle.aps_table.specs.Calls.{passed, refusal, single, table_after, answer_to, alone}
use Rattle.aps_table.specs.Taking.{take_unit}
use Rattle.recording.specs.Collected.{Short, kept_verdict, kept_taken}
use Rattle.recording.specs.Recorded.{is_other}

module _ (k : Short) (t : List ℕ) where
  pub passes-over : is_other k.head ≡ true → (passed ≡ single (kept_verdict k)) × (t ≡ kept_taken k t)
  unfolding kept_verdict kept_taken
  passes-over e = rw e (refl, refl)

  pub refuses-4 : is_other k.head ≡ false → 65536 < k.size → (refusal 4 ≡ single (kept_verdict k)) × (t ≡ kept_taken k t)
  unfolding kept_verdict kept_taken
  refuses-4 e h = rw (e, lt-ltb 65536 k.size h) (refl, refl)

  pub takes-alone : (u : List ℕ) → u ≡ k.head → is_other k.head ≡ false → k.size ≤ 65536 → (answer_to (alone u 2048) ≡ single (kept_verdict k)) × (table_after (alone u 2048) t ≡ kept_taken k t)
  unfolding kept_verdict kept_taken take_unit
  takes-alone u g e h = rw (g, e, le-ltb 65536 k.size h) (refl, refl)
