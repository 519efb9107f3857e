-- The loop over the lists: its record is what is kept of those read so far, with blank ones after them.
use mathlib.Core.Path.{◌≡◌, sym, ap, ◌∙◌}
use mathlib.Core.Bool.{true}
use mathlib.Core.List.{List}
use Prim.Native.Nat.{ℕ, ◌+◌, ◌*◌, ◌≤◌, ◌<◌}
use native.Mathlib.Omega.{arith}
use borrow.Author.Tests.{lt-ltb, le-ltb}
use lib.ListN.{length, set, replicate}
use Rattle.bitstream.specs.Outcome.{value, refused, map_outcome}
use Rattle.aps.proofs.Answers.{made, unmade}
use Rattle.aps.proofs.Steps.{via-read, Reading, reading-start, reading-more, reading-refused, reading-done}
use Rattle.hevc_scaling.specs.Inner.{list_of, stored}
use Rattle.hevc_scaling.specs.ListData.{zero_lists, filled, rows, keep, look, lists, parse_scaling_list_data}
use Rattle.hevc_scaling.specs.ListSyntax.{coef_num, Entry, no_entry, list_at, list_syntax}
use Rattle.hevc_scaling.specs.declared.scaling_list.ScalingList.{ScalingList}
use Rattle.hevc_scaling.specs.declared.scaling_list.HevcScalingListData.{HevcScalingListData}
use Rattle.hevc_scaling.proofs.KeepLaws.{keep-set}

pub record Storing (s : List ℕ) (k : ℕ) (d : HevcScalingListData) (q : ℕ) : Type 0 where
  es : List Entry
  reading : Reading list_at 24 no_entry.default s 0 k es q
  keeps : keep es ≡ d
  pub inside : q ≤ length s * 8

module _ (s : List ℕ) where
  pub storing-start : {d : HevcScalingListData} → d ≡ zero_lists → Storing s 0 d 0
  unfolding keep rows filled coef_num zero_lists
  storing-start e = record { es = replicate 24 no_entry.default; reading = reading-start list_at 24 no_entry.default s 0; keeps = sym e; inside = omega arith }

  module _ {k : ℕ} {d : HevcScalingListData} {q : ℕ} (S : Storing s k d q) where
    pub storing-more : {l : ScalingList} {r : ℕ} → k < 24 → value l r ≡ map_outcome list_of ((list_at k).read s q) → r ≤ length s * 8 → Storing s (k + 1) (stored d k l) r
    storing-more {l} {r} h e i =
        let M = made list_of ((list_at k).read s q) e in
        record {
          es = set S.es k M.from;
          reading = reading-more list_at 24 no_entry.default s 0 k S.es q S.reading M.from r h M.read;
          keeps = keep-set S.es k M.from S.reading.size ∙ rw (S.keeps, ← M.is);
          inside = i;
        }

    pub storing-refused : {n : ℕ} → length s ≤ 65536 → k < 24 → refused n ≡ map_outcome list_of ((list_at k).read s q) → refused n ≡ parse_scaling_list_data s
    unfolding parse_scaling_list_data lists list_syntax
    storing-refused {n} m h e =
        let f = reading-refused list_at 24 no_entry.default s 0 k S.es q S.reading n h (unmade list_of ((list_at k).read s q) e) in
        sym (rw (le-ltb 65536 (length s) m) (via-read keep look (λ d. true) list_syntax s 0 ∙ ap (map_outcome keep) f))

    pub storing-done : length s ≤ 65536 → k ≡ 24 → value d q ≡ parse_scaling_list_data s
    unfolding parse_scaling_list_data lists list_syntax
    storing-done m h =
        let f = reading-done list_at 24 no_entry.default s 0 k S.es q S.reading (omega arith) (λ j a b. absurd (omega arith)) in
        sym (rw (le-ltb 65536 (length s) m) (via-read keep look (λ d. true) list_syntax s 0 ∙ ap (map_outcome keep) f ∙ rw S.keeps))

-- an input that is too long
pub parse-long : (s : List ℕ) → 65536 < length s → refused 4 ≡ parse_scaling_list_data s
unfolding parse_scaling_list_data
parse-long s h = rw (lt-ltb 65536 (length s) h)
