-- What is inferred where nothing is sent, for each kind: the set that a written one is read back as.
use mathlib.Core.Path.{◌≡◌, refl, ap}
use mathlib.Core.Bool.{Bool, true, false, cond}
use mathlib.Core.List.{List, []}
use Prim.Native.Nat.{ℕ, ◌*◌, ◌-◌, ◌<◌}
use native.Mathlib.Omega.{arith}
use borrow.Author.Tests.{ltb-true}
use lib.Dec.{ltb}
use lib.IntN.{ℤ, pos}
use lib.ListN.{length, get_or, take, drop, get_or-map}
use Rattle.aps.specs.ScalingSyntax.{entries, id_coded, Entry, no_entry, filled, keep, looked, looked_at, look}
use Rattle.aps.specs.ApsSyntax.{zero_alf, zero_lmcs, zero_scaling, Payload, kind_of, alf_in, lmcs_in, scaling_in, to_aps, payload_of, from_aps, inferred}
use Rattle.aps.specs.declared.scaling_list.VvcScalingListData.{VvcScalingListData}
use Rattle.aps.specs.declared.aps.ApsKind.{ApsKind}
use Rattle.aps.specs.declared.aps.VvcAps.{VvcAps}
use Rattle.aps.proofs.KeepLaws.{kept_row, kept-dc, look_at, length-look}

-- the set of a payload, with a's own fields beside it
abbrev made : VvcAps → Payload → VvcAps
made a p =
    record {
      kind = kind_of p;
      aps_adaptation_parameter_set_id = a.aps_adaptation_parameter_set_id;
      aps_chroma_present_flag = a.aps_chroma_present_flag;
      aps_extension_flag = a.aps_extension_flag;
      alf = alf_in p;
      lmcs = lmcs_in p;
      scaling = scaling_in p;
    }

-- an ALF set keeps its own record; those of the other kinds are 0
pub alf-back : (a : VvcAps) → a.kind ≡ ApsKind.Alf → inferred a ≡ record {
  kind = ApsKind.Alf;
  aps_adaptation_parameter_set_id = a.aps_adaptation_parameter_set_id;
  aps_chroma_present_flag = a.aps_chroma_present_flag;
  aps_extension_flag = a.aps_extension_flag;
  alf = a.alf;
  lmcs = zero_lmcs;
  scaling = zero_scaling;
}
unfolding inferred to_aps from_aps
alf-back a e = ap (λ (k : ApsKind). made a (payload_of k a.aps_chroma_present_flag a.alf a.lmcs a.scaling)) e

-- and so does an LMCS set
pub lmcs-back : (a : VvcAps) → a.kind ≡ ApsKind.Lmcs → inferred a ≡ record {
  kind = ApsKind.Lmcs;
  aps_adaptation_parameter_set_id = a.aps_adaptation_parameter_set_id;
  aps_chroma_present_flag = a.aps_chroma_present_flag;
  aps_extension_flag = a.aps_extension_flag;
  alf = zero_alf;
  lmcs = a.lmcs;
  scaling = zero_scaling;
}
unfolding inferred to_aps from_aps
lmcs-back a e = ap (λ (k : ApsKind). made a (payload_of k a.aps_chroma_present_flag a.alf a.lmcs a.scaling)) e

-- of a scaling set's record, what is looked at is kept
pub scaling-back : (a : VvcAps) → a.kind ≡ ApsKind.Scaling → inferred a ≡ record {
  kind = ApsKind.Scaling;
  aps_adaptation_parameter_set_id = a.aps_adaptation_parameter_set_id;
  aps_chroma_present_flag = a.aps_chroma_present_flag;
  aps_extension_flag = a.aps_extension_flag;
  alf = zero_alf;
  lmcs = zero_lmcs;
  scaling = keep (look a.aps_chroma_present_flag a.scaling);
}
unfolding inferred to_aps from_aps
scaling-back a e = ap (λ (k : ApsKind). made a (payload_of k a.aps_chroma_present_flag a.alf a.lmcs a.scaling)) e

-- ---- the ids of a scaling set

-- what a record holds of an id; the DC from id 14 on
abbrev pub entry_of : VvcScalingListData → ℕ → Entry
entry_of d id = (
  get_or d.copy_mode_flag id true,
  (
    get_or d.pred_mode_flag id false,
    (get_or d.pred_id_delta id 0, (cond (ltb 13 id) (get_or d.dc_coef (id - 14) (pos 0)) (pos 0), take 64 (drop (id * 64) d.scaling_list))),
  ),
)

-- an id's own, as it is read back: what is looked at, the list filled up with 0
pub entry-back : (chroma : Bool) (d : VvcScalingListData) (id : ℕ) → id < 28 → entry_of (keep (look chroma d)) id
    ≡ (let e = looked_at chroma d id in (e.0, (e.1.0, (e.1.1.0, (cond (ltb 13 id) e.1.1.1.0 (pos 0), filled e.1.1.1.1)))))
unfolding keep
entry-back chroma d id h = rw (
  get_or-map (λ (e : Entry). e.0) es id none,
  get_or-map (λ (e : Entry). e.1.0) es id none,
  get_or-map (λ (e : Entry). e.1.1.0) es id none,
  kept_row es id l,
  dc (ltb 13 id) refl,
  look_at chroma d id none h,
)
  where
    es : List Entry
    es = look chroma d

    none : Entry
    none = no_entry.default

    l : id < length es
    l = omega (arith, length-look chroma d)

    dc : (b : Bool) → ltb 13 id ≡ b → cond b (get_or (keep es).dc_coef (id - 14) (pos 0)) (pos 0) ≡ cond b (get_or es id none).1.1.1.0 (pos 0)
    dc true e = kept-dc es id l (ltb-true 13 id e)
    dc false e = refl

module _ (chroma : Bool) (id : ℕ) (pred : Bool) (delta : ℕ) (dc : ℤ) (row : List ℤ) where
  -- an id that is not coded is a copy, and nothing else is looked at
  pub looked-uncoded : (copy : Bool) → id_coded chroma id ≡ false → looked chroma id copy pred delta dc row ≡ (true, (false, (0, (pos 0, []))))
  unfolding looked
  looked-uncoded copy e = rw e

  -- of a copy neither the DC nor the list
  pub looked-copied : id_coded chroma id ≡ true → looked chroma id true pred delta dc row ≡ (true, (pred, (delta, (pos 0, []))))
  unfolding looked
  looked-copied e = rw e

  -- of the others the DC from id 14 on, and the list as far as the matrix goes
  pub looked-sent : id_coded chroma id ≡ true → looked chroma id false pred delta dc row ≡ (false, (pred, (delta, (cond (ltb 13 id) dc (pos 0), take (entries id) row))))
  unfolding looked
  looked-sent e = rw e
