-- The parts of lmcs_data( ) written one after another.
use borrow.Author.Tests.{le-leb}
use mathlib.Core.Path.{◌≡◌, ◌∙◌}
use mathlib.Core.Bool.{Bool, false, and-false}
use Prim.Native.Nat.{ℕ, ◌≤◌}
use lib.Dec.{leb}
use Rattle.std.proofs.Common.{Result}
use Rattle.bitstream.specs.declared.Refusal.{Refusal}
use Rattle.aps.specs.Codec.{ue, ◌▷◌, judged, via}
use Rattle.aps.specs.Elements.{ue_to}
use Rattle.aps.specs.LmcsSyntax.{LmcsHead, in_range, lmcs_head, lmcs, lmcs_syntax, from_lmcs}
use Rattle.aps.specs.declared.lmcs.VvcLmcsData.{VvcLmcsData}
use Rattle.aps.specs.Writes.{Wrote, kept}
use Rattle.aps.specs.declared.writer.Writer.{Writer}
use Rattle.aps.proofs.WriterLaws.{writes-judged, wrote_as}

-- a head that is out of range is not taken
pub head-not : (h : LmcsHead) → in_range h ≡ false → lmcs_head.ok h ≡ false
unfolding judged
head-not h e = rw e (and-false ((ue ▷ λ min. ue ▷ λ max. ue).ok h))

-- a value in range is written as any other
pub ue-wrote : {most v : ℕ} {before after : Writer} {r : Result (Unit {0}) Refusal} → v ≤ most → Wrote (ue_to most) v before after r → Wrote ue v before after r
unfolding ue_to
ue-wrote {most} {v} {before} l = wrote_as (writes-judged (λ v. leb v most) ue v (kept before) before.at ∙ rw (le-leb v most l))

-- nor is a curve with such a head
pub curve-not : (chroma : Bool) (d : VvcLmcsData) → in_range (d.lmcs_min_bin_idx, (d.lmcs_delta_max_bin_idx, d.lmcs_delta_cw_prec_minus1)) ≡ false → (lmcs chroma).ok d ≡ false
unfolding lmcs lmcs_syntax from_lmcs via ◌▷◌
curve-not chroma d e = rw (head-not (d.lmcs_min_bin_idx, (d.lmcs_delta_max_bin_idx, d.lmcs_delta_cw_prec_minus1)) e)
