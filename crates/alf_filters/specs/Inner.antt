-- For the proofs' sake: what inner functions ask of a record. A writable set has it, and no public contract says anything of this file.
use Rattle.std.specs.Prelude.{ℕ, ◌≤◌, List, get_or}
use Rattle.aps.specs.declared.alf.VvcAlfLuma.{VvcAlfLuma}
use Rattle.aps.specs.declared.alf.VvcAlfChroma.{VvcAlfChroma}
use Rattle.aps.specs.declared.alf.VvcAlfCcFilters.{VvcAlfCcFilters}

-- every entry is at most this
abbrev pub AtMost : ℕ → List ℕ → Type 0
AtMost most l = (k : ℕ) → get_or l k 0 ≤ most

pub record LumaFits (d : VvcAlfLuma) : Type 0 where
  pub indexes : AtMost 24 d.alf_luma_coeff_delta_idx
  pub magnitudes : AtMost 128 d.coeff_abs
  pub clips : AtMost 3 d.clip_idx

pub record ChromaFits (d : VvcAlfChroma) : Type 0 where
  pub count : d.alf_chroma_num_alt_filters_minus1 ≤ 7
  pub magnitudes : AtMost 128 d.coeff_abs
  pub clips : AtMost 3 d.clip_idx

pub record CcFits (d : VvcAlfCcFilters) : Type 0 where
  pub count : d.filters_signalled_minus1 ≤ 3
  pub magnitudes : AtMost 7 d.mapped_coeff_abs
