-- What each call answers: a component of a set, or a refusal's number.
use Rattle.std.specs.Prelude.{Bool, cond, ◌&&◌, ℕ, leb, Result, Ok, Err}
use Rattle.aps.specs.Writing.{fit}
use Rattle.aps.specs.declared.aps.ApsKind.{ApsKind}
use Rattle.aps.specs.declared.aps.VvcAps.{VvcAps}
use Rattle.alf_filters.specs.Filters.{luma_rows, chroma_rows, cc_rows}
use Rattle.alf_filters.specs.Weights.{weights_of}
use Rattle.alf_filters.specs.declared.luma.LumaFilters.{LumaFilters}
use Rattle.alf_filters.specs.declared.chroma.ChromaFilters.{ChromaFilters}
use Rattle.alf_filters.specs.declared.cross_component.CcFilters.{CcFilters}
use Rattle.alf_filters.specs.declared.weights.LumaWeights.{LumaWeights}

module _ {A : Type 0} where
  -- 2: the set is of another kind or not writable; the refusal for an argument that is not allowed; 8: the component was not sent
  unfoldable pub asked : VvcAps → Bool → ℕ → Bool → A → Result A ℕ
  asked a allowed otherwise sent x = cond (fit ApsKind.Alf a) (cond allowed (cond sent (Ok x) (Err 8)) (Err otherwise)) (Err 2)

-- a bit depth of 8 to 12
unfoldable pub is_depth : ℕ → Bool
is_depth depth = leb 8 depth && leb depth 12

unfoldable pub luma_filters : VvcAps → ℕ → Result LumaFilters ℕ
luma_filters a depth = asked a (is_depth depth) 7 a.alf.alf_luma_filter_signal_flag (luma_rows depth a.alf.luma)

unfoldable pub chroma_filters : VvcAps → ℕ → Result ChromaFilters ℕ
chroma_filters a depth = asked a (is_depth depth) 7 a.alf.alf_chroma_filter_signal_flag (chroma_rows depth a.alf.chroma)

unfoldable pub cb_filters : VvcAps → ℕ → Result CcFilters ℕ
cb_filters a depth = asked a (is_depth depth) 7 a.alf.alf_cc_cb_filter_signal_flag (cc_rows a.alf.cc_cb)

unfoldable pub cr_filters : VvcAps → ℕ → Result CcFilters ℕ
cr_filters a depth = asked a (is_depth depth) 7 a.alf.alf_cc_cr_filter_signal_flag (cc_rows a.alf.cc_cr)

-- the weights of filter i, 0 to 24
unfoldable pub luma_weights : VvcAps → ℕ → Result LumaWeights ℕ
luma_weights a i = asked a (leb i 24) 2 a.alf.alf_luma_filter_signal_flag (weights_of a.alf.luma i)
