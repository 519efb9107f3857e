-- Of a unit its first 3,075 bytes and its length, counted up to 65,537, are kept: nothing is sized by the recording.
use Rattle.std.specs.Prelude.{ℕ, cond, List, ltb, length, take}
use Rattle.aps.specs.Unit.{rbsp_of}
use Rattle.aps_table.specs.Taking.{Verdict, pass, refuse, verdict, put}
use Rattle.recording.specs.Recorded.{is_other}

-- n, but m where n is over m
unfoldable pub up_to : ℕ → ℕ → ℕ
up_to m n = cond (ltb m n) m n

-- of a unit: its first bytes, and its length
pub record Short : Type 0 where
  pub head : List ℕ
  pub size : ℕ

abbrev pub short : List ℕ → Short
short u = record { head = take 3075 u; size = up_to 65537 (length u) }

-- ---- what a unit comes to, by what is kept of it

unfoldable pub kept_verdict : Short → Verdict
kept_verdict k = cond (is_other k.head) pass (cond (ltb 65536 k.size) (refuse 4) (verdict k.head 2048))

unfoldable pub kept_taken : Short → List ℕ → List ℕ
kept_taken k t = put (kept_verdict k) (rbsp_of k.head) t
