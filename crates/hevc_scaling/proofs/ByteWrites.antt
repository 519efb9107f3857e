-- What the call makes of the lists: their bytes at the start of the output, or the refusal.
use mathlib.Core.Path.{◌≡◌, refl, sym, ◌∙◌}
use mathlib.Core.Bool.{Bool, true, false, cond}
use mathlib.Core.List.{List}
use Prim.Native.Nat.{ℕ, ◌+◌, ◌/◌}
use native.Mathlib.Nat.{zero-add}
use native.Mathlib.Omega.{arith}
use lib.ListN.{length, take, drop, replicate, length-replicate}
use lib.Seq.{take_at}
use Rattle.bitstream.specs.Outcome.{Outcome, value, refused, number, left}
use Rattle.bitstream.specs.Bits.{put_bits, pack}
use Rattle.bitstream.specs.Escapes.{put_bytes}
use Rattle.bitstream.specs.declared.Refusal.{Refusal}
use Rattle.bitstream.proofs.CodeLaws.{value-refused}
use Rattle.bitstream.proofs.PackLaws.{zero-bytes, length-pack, puts-pack}
use Rattle.bitstream.proofs.WriteLaws.{wrote}
use Rattle.std.proofs.lemmas.Result.{err_from_is_err_and}
use Rattle.std.specs.Prelude.{Result}
use Rattle.std.specs.Result.{IsErrAnd}
use Rattle.aps.specs.Codec.{via}
use Rattle.aps.specs.Writes.{writes}
use Rattle.hevc_scaling.specs.Inner.{written}
use Rattle.hevc_scaling.specs.ListData.{look, lists, list_bytes, write_scaling_list_data}
use Rattle.hevc_scaling.specs.ListSyntax.{list_syntax}
use Rattle.hevc_scaling.specs.declared.list_writer.ListWriter.{ListWriter}
use Rattle.hevc_scaling.specs.declared.scaling_list.HevcScalingListData.{HevcScalingListData}
use Rattle.hevc_scaling.proofs.ListLaws.{list_syntax-law}

-- what the exit of a `?` returns is the refusal that it met
pub written-exit : (r : Result (Unit {0}) Refusal) (why : Refusal) (w : ListWriter) {o : Outcome (List ℕ)} → IsErrAnd r (λ e. e ≡ why) → refused (number why) ≡ o → written r w ≡ o
written-exit r why w h e = let p = err_from_is_err_and r h in rw (p.1, p.2) e

module _ (d : HevcScalingListData) where
  -- lists that are taken are written as their bytes
  pub write-taken : list_syntax.ok (look d) ≡ true → (out : List ℕ) → write_scaling_list_data d out ≡ put_bytes out (list_bytes d)
  unfolding write_scaling_list_data lists via
  write-taken o out = rw o

  -- lists that are not
  pub write-not : list_syntax.ok (look d) ≡ false → (out : List ℕ) → write_scaling_list_data d out ≡ refused 2
  unfolding write_scaling_list_data lists via
  write-not o out = rw o

  -- bits put from the start on into zeros
  packed : list_syntax.ok (look d) ≡ true
      → take ((length (list_syntax.emit (look d)) + 7) / 8) (put_bits (replicate 2136 0) 0 (list_syntax.emit (look d))) ≡ list_bytes d
  unfolding list_bytes lists via
  packed o =
      let bs = list_syntax.emit (look d) in
      let zeros : List ℕ = replicate 2136 0 in
      let n : length zeros ≡ 2136 = length-replicate {A = ℕ} 2136 0 in
      let e = puts-pack zeros bs (list_syntax-law.bits (look d) o) (zero-bytes 2136) (omega (arith, n, list_syntax-law.most (look d) o)) in
      rw e (take_at (pack bs) (drop ((length bs + 7) / 8) zeros) ((length bs + 7) / 8) (length-pack bs))

  -- what the inner writing gives
  pub bytes-written : {b : List ℕ} {q : ℕ} → value b q ≡ writes list_syntax (look d) (replicate 2136 0) 0 → (list_syntax.ok (look d) ≡ true) × (take ((q + 7) / 8) b ≡ list_bytes d)
  unfolding writes
  bytes-written {b} {q} e = go (list_syntax.ok (look d)) refl e
    where
      go : (t : Bool) → list_syntax.ok (look d) ≡ t
          → value b q ≡ cond t (value (put_bits (replicate 2136 0) 0 (list_syntax.emit (look d))) (0 + length (list_syntax.emit (look d)))) (refused 2)
          → (list_syntax.ok (look d) ≡ true) × (take ((q + 7) / 8) b ≡ list_bytes d)
      go true o e =
          let f : b ≡ put_bits (replicate 2136 0) 0 (list_syntax.emit (look d)) = cc in
          let g : q ≡ 0 + length (list_syntax.emit (look d)) = cc in
          let h : q ≡ length (list_syntax.emit (look d)) = g ∙ zero-add (length (list_syntax.emit (look d))) in
          (o, rw (f, h) (packed o))
      go false o e = absurd (value-refused e)

  pub bytes-refused : {n : ℕ} → refused n ≡ writes list_syntax (look d) (replicate 2136 0) 0 → (out : List ℕ)
      → (refused n ≡ write_scaling_list_data d out) × (out ≡ left out (write_scaling_list_data d out))
  unfolding writes
  bytes-refused {n} e out = go (list_syntax.ok (look d)) refl e
    where
      go : (t : Bool) → list_syntax.ok (look d) ≡ t
          → refused n ≡ cond t (value (put_bits (replicate 2136 0) 0 (list_syntax.emit (look d))) (0 + length (list_syntax.emit (look d)))) (refused 2)
          → (refused n ≡ write_scaling_list_data d out) × (out ≡ left out (write_scaling_list_data d out))
      go true o e = absurd (value-refused (sym e))
      go false o e = wrote out (write-not o out ∙ sym e)
