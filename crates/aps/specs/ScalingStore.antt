-- For the proofs' sake: the ids of scaling lists in the record that their readers fill. No public contract says anything of this file.
use Rattle.std.specs.Prelude.{Bool, true, false, cond, [], ℕ, ◌*◌, ◌-◌, ltb, pos, set}
use Rattle.std.proofs.lemmas.List.Edits.{sets}
use Rattle.aps.specs.Codec.{Codec, via}
use Rattle.aps.specs.ScalingSyntax.{Entry, no_entry, id_at, scaling_syntax, keep, look}
use Rattle.aps.specs.declared.scaling_list.VvcScalingListData.{VvcScalingListData}

-- what a record of zeros has of an id
abbrev pub blank : Entry
blank = (false, (false, (0, (pos 0, []))))

-- d with an id stored in it
unfoldable pub stored_in : VvcScalingListData → ℕ → Entry → VvcScalingListData
stored_in d id e =
    record {
      copy_mode_flag = set d.copy_mode_flag id e.0;
      pred_mode_flag = set d.pred_mode_flag id e.1.0;
      pred_id_delta = set d.pred_id_delta id e.1.1.0;
      dc_coef = cond (ltb 13 id) (set d.dc_coef (id - 14) e.1.1.1.0) d.dc_coef;
      scaling_list = sets d.scaling_list (64 * id) e.1.1.1.1;
    }

-- an id, read into d
abbrev pub id_in : VvcScalingListData → Bool → ℕ → Codec VvcScalingListData
id_in d chroma id = via (stored_in d id) (λ x. no_entry.default) (λ x. true) (id_at chroma id)

-- what is kept of scaling_list_data( )
abbrev pub kept : Bool → Codec VvcScalingListData
kept chroma = via keep (look chroma) (λ d. true) (scaling_syntax chroma)
