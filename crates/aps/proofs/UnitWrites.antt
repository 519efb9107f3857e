-- Bytes put at the start of an output, a unit, and the two calls.
use borrow.Author.Tests.{lt-ltb, le-ltb, ltb-true, ltb-false}
use borrow.Rule.Slice.PartMut.{mid_of, put_mid, put_same}
use mathlib.Core.Path.{◌≡◌, refl, sym, ap, ◌∙◌}
use mathlib.Core.Bool.{Bool, true, false, cond}
use mathlib.Core.List.{List, [], ◌∷◌, ◌++◌, append-nil}
use Prim.Native.Nat.{ℕ, suc, ◌+◌, ◌-◌, ◌*◌, ◌≤◌, ◌<◌}
use native.Mathlib.Omega.{arith}
use lib.Dec.{ltb}
use lib.ListN.{length, drop, set, length-drop}
use lib.Seq.{take-length, drop-length, length-take-le}
use Rattle.std.proofs.Common.{Result}
use Rattle.std.proofs.lemmas.Result.{err_from_is_err_and}
use Rattle.std.specs.Result.{IsErrAnd}
use Rattle.bitstream.specs.Outcome.{Outcome, value, refused, number, outcome_written, left, ◌then◌}
use Rattle.bitstream.specs.declared.Refusal.{Refusal}
use Rattle.bitstream.specs.Escapes.{escape, put_bytes, rbsp_to_ebsp}
use Rattle.bitstream.proofs.CodeLaws.{value-refused}
use Rattle.bitstream.proofs.WriteLaws.{wrote}
use Rattle.aps.specs.Unit.{is_aps_header}
use Rattle.aps.specs.declared.unit_header.UnitHeader.{UnitHeader}
use Rattle.aps.specs.Writing.{bytes_due, unit_of, write_aps, write_nal, write_aps_nal}
use Rattle.aps.specs.declared.aps.VvcAps.{VvcAps}
use Rattle.aps.proofs.RbspWrites.{taken-due}

-- ---- bytes put at the start of an output

module _ (out l : List ℕ) where
  -- bytes that are more than the output are refused
  out-short : length out < length l → put_bytes out l ≡ refused 5
  unfolding put_bytes
  out-short h = rw (lt-ltb (length out) (length l) h)

  -- bytes that are not more are put at its start
  out-fits : length l ≤ length out → put_bytes out l ≡ value (l ++ drop (length l) out) (length l)
  unfolding put_bytes
  out-fits h = rw (le-ltb (length out) (length l) h)

  -- bytes that were put stand at its start, and there was room
  pub put-value : (after : List ℕ) (n : ℕ) → value after n ≡ put_bytes out l → (after ≡ l ++ drop (length l) out) × (n ≡ length l) × (length l ≤ length out)
  unfolding put_bytes
  put-value after n = go (ltb (length out) (length l)) refl
    where
      go : (b : Bool) → ltb (length out) (length l) ≡ b → value after n ≡ cond b (refused 5) (value (l ++ drop (length l) out) (length l))
          → (after ≡ l ++ drop (length l) out) × (n ≡ length l) × (length l ≤ length out)
      go true t e = absurd (value-refused e)
      go false t e = (cc, cc, ltb-false _ _ t)

  -- bytes that were refused had too little room
  put_refused : (n : ℕ) → refused n ≡ put_bytes out l → (n ≡ 5) × (length out < length l)
  unfolding put_bytes
  put_refused n = go (ltb (length out) (length l)) refl
    where
      go : (b : Bool) → ltb (length out) (length l) ≡ b → refused n ≡ cond b (refused 5) (value (l ++ drop (length l) out) (length l)) → (n ≡ 5) × (length out < length l)
      go true t e = (cc, ltb-true _ _ t)
      go false t e = absurd (value-refused (sym e))

  -- there is room: they stand at its start
  pub copied : length l ≤ length out → (value (l ++ drop (length l) out) (length l) ≡ put_bytes out l) × (l ++ drop (length l) out ≡ left out (put_bytes out l))
  copied h = wrote out (out-fits h)

  -- too little room: the output stays
  pub not-copied : length out < length l → (refused 5 ≡ put_bytes out l) × (out ≡ left out (put_bytes out l))
  not-copied h = wrote out (out-short h)

-- a call that answers and leaves what another does
pub answered-as : (out : List ℕ) {a o w : Outcome (List ℕ)} {last : List ℕ} → w ≡ o → (a ≡ o) × (last ≡ left out o) → (a ≡ w) × (last ≡ left out w)
answered-as out e h = (h.0 ∙ sym e, h.1 ∙ ap (left out) (sym e))

-- what the exit of a `?` returns is the refusal that it met
pub answer-exit : (out : List ℕ) (r : Result ℕ Refusal) (why : Refusal) {o : Outcome (List ℕ)} {last : List ℕ} → IsErrAnd r (λ e. e ≡ why) → (refused (number why) ≡ o) × (last ≡ left out o)
    → (outcome_written r last ≡ o) × (last ≡ left out o)
answer-exit out r why h e = let p = err_from_is_err_and r h in (rw (p.1, p.2) e.0, e.1)

-- ---- a unit

-- the two bytes of the header before what was put after them
head-set : (out last e : List ℕ) (b t : ℕ) → 2 ≤ length out → last ≡ e ++ drop (length e) (mid_of 2 (length out - 2) out)
    → set (set (put_mid 2 (length out - 2) out last) 0 b) 1 t ≡ (b ∷ t ∷ e) ++ drop (length (b ∷ t ∷ e)) out
head-set [] last e b t h w = absurd (omega arith)
head-set (x ∷ []) last e b t h w = absurd (omega arith)
head-set (x ∷ y ∷ l) last e b t h w =
    let n : suc (suc (length l)) - 2 ≡ length l = omega arith in
    let v : last ≡ e ++ drop (length e) l = rw (n, take-length l) at w in
    rw (n, v, drop-length l, append-nil (e ++ drop (length e) l))

module _ (out bytes : List ℕ) (head : UnitHeader) where
  -- a header that is none of an APS unit is refused
  pub unit-header : is_aps_header head ≡ false → (refused 2 ≡ write_nal bytes head out) × (out ≡ left out (write_nal bytes head out))
  unfolding write_nal
  unit-header t = wrote out (rw t)

  module _ (t : is_aps_header head ≡ true) where
    -- an RBSP over 2,048 bytes is refused
    pub unit-long : 2048 < length bytes → (refused 4 ≡ write_nal bytes head out) × (out ≡ left out (write_nal bytes head out))
    unfolding write_nal
    unit-long h = wrote out (rw (t, lt-ltb 2048 (length bytes) h))

    -- any other is put as a unit
    pub unit-due : length bytes ≤ 2048 → write_nal bytes head out ≡ put_bytes out (unit_of head bytes)
    unfolding write_nal
    unit-due h = rw (t, le-ltb 2048 (length bytes) h)

  -- a unit is its header and the escaped bytes
  unit-length : length (unit_of head bytes) ≡ 2 + length (escape bytes)
  unfolding unit_of
  unit-length = omega arith

  -- with no room for the header it is refused
  pub unit-short : length out < 2 → (refused 5 ≡ put_bytes out (unit_of head bytes)) × (out ≡ left out (put_bytes out (unit_of head bytes)))
  unit-short h = not-copied out (unit_of head bytes) (omega (arith, unit-length))

  module _ (h : 2 ≤ length out) (b : length bytes ≤ 2048) where
    -- the output after the header
    abbrev rest : List ℕ
    rest = mid_of 2 (length out - 2) out

    -- it is two bytes shorter
    rest-length : length rest ≡ length out - 2
    rest-length = length-take-le (length out - 2) (drop 2 out) (omega (arith, length-drop 2 out))

    -- escaping into it puts the escaped bytes there
    escaped : rbsp_to_ebsp bytes rest ≡ put_bytes rest (escape bytes)
    unfolding rbsp_to_ebsp
    escaped = rw (le-ltb 65536 (length bytes) (omega arith))

    module _ (last : List ℕ) (n : ℕ) where
      -- a unit that was put is within the output
      pub unit-within : value last n ≡ rbsp_to_ebsp bytes rest → n + 2 ≤ length out
      unit-within e =
          let (f, g, l) = put-value rest (escape bytes) last n (e ∙ escaped) in
          omega (arith, rest-length)

      -- the header and the escaped bytes after it are the unit
      pub unit-put : value last n ≡ rbsp_to_ebsp bytes rest
          → (value (set (set (put_mid 2 (length out - 2) out last) 0 head.nuh_layer_id) 1 (head.nal_unit_type * 8 + head.nuh_temporal_id_plus1)) (n + 2) ≡ put_bytes out (unit_of head bytes))
          × (set (set (put_mid 2 (length out - 2) out last) 0 head.nuh_layer_id) 1 (head.nal_unit_type * 8 + head.nuh_temporal_id_plus1) ≡ left out (put_bytes out (unit_of head bytes)))
      unfolding unit_of
      unit-put e =
          let (f, g, l) = put-value rest (escape bytes) last n (e ∙ escaped) in
          let s = head-set out last (escape bytes) head.nuh_layer_id (head.nal_unit_type * 8 + head.nuh_temporal_id_plus1) h f in
          let m : n + 2 ≡ suc (suc (length (escape bytes))) = omega arith in
          wrote out (out-fits out (head.nuh_layer_id ∷ (head.nal_unit_type * 8 + head.nuh_temporal_id_plus1) ∷ escape bytes) (omega (arith, rest-length)) ∙ rw (s, m))

    -- with no room for what follows the header it is refused
    pub unit-refused : (last : List ℕ) (n : ℕ) → refused n ≡ rbsp_to_ebsp bytes rest → last ≡ left rest (rbsp_to_ebsp bytes rest)
        → (refused n ≡ put_bytes out (unit_of head bytes)) × (put_mid 2 (length out - 2) out last ≡ left out (put_bytes out (unit_of head bytes)))
    unit-refused last n e k =
        let (f, l) = put_refused rest (escape bytes) n (e ∙ escaped) in
        let s : last ≡ rest = k ∙ ap (left rest) (sym e) in
        let p : put_mid 2 (length out - 2) out last ≡ out = rw s (put_same 2 (length out - 2) out) in
        let w = not-copied out (unit_of head bytes) (omega (arith, unit-length, rest-length)) in
        (ap refused f ∙ w.0, p ∙ w.1)

-- ---- the two calls

module _ (set : VvcAps) (out : List ℕ) where
  -- a header that is none of an APS unit is refused
  pub nal-header : (head : UnitHeader) → is_aps_header head ≡ false → (refused 2 ≡ write_aps_nal set head out) × (out ≡ left out (write_aps_nal set head out))
  unfolding write_aps_nal
  nal-header head t = wrote out (rw t)

  -- a set that is refused
  module _ (n : ℕ) (e : refused n ≡ bytes_due set) where
    -- it is refused as an RBSP
    pub aps-refused : (refused n ≡ write_aps set out) × (out ≡ left out (write_aps set out))
    unfolding write_aps
    aps-refused = wrote out (ap (λ (o : Outcome (List ℕ)). o then λ bytes n. put_bytes out bytes) (sym e))

    -- and as a unit
    pub nal-refused : (head : UnitHeader) → is_aps_header head ≡ true → (refused n ≡ write_aps_nal set head out) × (out ≡ left out (write_aps_nal set head out))
    unfolding write_aps_nal
    nal-refused head t = wrote out (rw t (ap (λ (o : Outcome (List ℕ)). o then λ bytes n. put_bytes out (unit_of head bytes)) (sym e)))

  -- one whose bytes are l
  module _ (l : List ℕ) (n : ℕ) (e : value l n ≡ bytes_due set) where
    -- the bytes due are put as they are
    pub aps-bytes : write_aps set out ≡ put_bytes out l
    unfolding write_aps
    aps-bytes = ap (λ (o : Outcome (List ℕ)). o then λ bytes n. put_bytes out bytes) (sym e)

    -- or as a unit
    pub nal-bytes : (head : UnitHeader) → is_aps_header head ≡ true → write_aps_nal set head out ≡ write_nal l head out
    unfolding write_aps_nal
    nal-bytes head t =
        let (x, o, w, m, s) = taken-due set l n (sym e) in
        rw t (ap (λ (o : Outcome (List ℕ)). o then λ bytes n. put_bytes out (unit_of head bytes)) (sym e)) ∙ sym (unit-due out l head t (rw w s))
