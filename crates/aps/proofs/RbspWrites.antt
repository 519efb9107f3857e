-- A set's payload, the set, and its RBSP.
use borrow.Author.Tests.{le-leb, lt-leb, lt-ltb, le-ltb, ltb-false}
use mathlib.Core.Path.{◌≡◌, refl, sym, ap, ◌∙◌}
use mathlib.Core.Bool.{Bool, true, false, cond, and-false}
use mathlib.Core.List.{List}
use Prim.Native.Nat.{ℕ, zero, suc, ◌+◌, ◌/◌, ◌≤◌, ◌<◌}
use native.Mathlib.Nat.{zero-add}
use native.Mathlib.Omega.{arith}
use lib.Dec.{leb, ltb}
use lib.ListN.{length, take, replicate}
use Rattle.std.proofs.Common.{Result, Ok, Err}
use Rattle.std.proofs.lemmas.List.{take-replicate}
use Rattle.std.proofs.lemmas.Result.{err_from_is_err_and}
use Rattle.std.specs.Result.{IsErrAnd, is_ok}
use Rattle.bitstream.specs.Outcome.{Outcome, value, refused, number}
use Rattle.bitstream.specs.declared.Refusal.{Refusal}
use Rattle.bitstream.specs.Bits.{put_bits, pack, Holds}
use Rattle.bitstream.specs.Fields.{trailing_bits}
use Rattle.bitstream.proofs.CodeLaws.{value-refused}
use Rattle.bitstream.proofs.WriteLaws.{puts-append, length-trailing}
use Rattle.bitstream.proofs.KeepLaws.{Bytes, length-puts, bytes-puts, puts-hold}
use Rattle.bitstream.proofs.PackLaws.{length-pack, zero-bytes}
use Rattle.aps.specs.Kinds.{largest_id}
use Rattle.aps.specs.Codec.{via, judged, provided, never}
use Rattle.aps.specs.AlfSyntax.{alf}
use Rattle.aps.specs.LmcsSyntax.{lmcs}
use Rattle.aps.specs.ScalingSyntax.{Entry, scaling_syntax}
use Rattle.aps.specs.ApsSyntax.{Payload, of_alf, of_lmcs, of_scaling, alf_in, lmcs_in, entries_in, is_alf, is_lmcs, is_scaling, payload, ApsData, aps_syntax, to_aps, from_aps, aps}
use Rattle.aps.specs.Rbsp.{rbsp_bits, rbsp_bytes}
use Rattle.aps.specs.Writes.{writes, kept, closed, Wrote}
use Rattle.aps.specs.declared.writer.Writer.{Writer}
use Rattle.aps.specs.Writing.{not_long, rbsp_due, bytes_due}
use Rattle.aps.specs.declared.aps.VvcAps.{VvcAps}
use Rattle.aps.specs.declared.alf.VvcAlfData.{VvcAlfData}
use Rattle.aps.specs.declared.lmcs.VvcLmcsData.{VvcLmcsData}
use Rattle.aps.proofs.PackLaws.{pack-is}
use Rattle.aps.proofs.RbspLaws.{length-rbsp, bits-rbsp}
use Rattle.aps.proofs.WriterLaws.{wrote-judged, wrote-provided, wrote-via}

-- a set was written exactly where it is one that the writer takes
pub wrote-taken : (a : VvcAps) (before after : Writer) (r : Result (Unit {0}) Refusal) → Wrote aps a before after r → is_ok r ≡ aps.ok a
unfolding writes
wrote-taken a before after (Ok x) w = go (aps.ok a) refl
  where
    go : (b : Bool) → aps.ok a ≡ b → true ≡ aps.ok a
    go true e = sym e
    go false e = absurd (value-refused (rw e at w.answer))
wrote-taken a before after (Err n) w = go (aps.ok a) refl
  where
    go : (b : Bool) → aps.ok a ≡ b → false ≡ aps.ok a
    go true e = absurd (value-refused (sym (rw e at w.answer)))
    go false e = sym e

-- ---- the payload

module _ (id : ℕ) (chroma : Bool) where
  -- an id that the kind does not have is not taken
  pub id-wide : (kind : ℕ) (x : Payload) → largest_id kind < id → (payload kind id chroma).ok x ≡ false
  unfolding payload judged provided never
  id-wide zero x h = rw (lt-leb id (largest_id 0) h) (and-false ((via of_alf alf_in is_alf (alf chroma)).ok x))
  id-wide (suc zero) x h = rw (lt-leb id (largest_id 1) h)
  id-wide (suc (suc zero)) x h = rw (lt-leb id (largest_id 2) h) (and-false ((via of_scaling entries_in is_scaling (scaling_syntax chroma)).ok x))
  id-wide (suc (suc (suc kind))) x h = refl

  -- the payload of a kind is what the kind's description writes
  module _ {before after : Writer} {r : Result (Unit {0}) Refusal} where
    pub alf-payload : {d : VvcAlfData} → id ≤ 7 → Wrote (alf chroma) d before after r → Wrote (payload 0 id chroma) (of_alf d) before after r
    unfolding payload
    alf-payload h w = wrote-judged (λ p. leb id (largest_id 0)) (le-leb id (largest_id 0) h) (wrote-via of_alf alf_in is_alf refl w)

    pub lmcs-payload : {d : VvcLmcsData} → id ≤ 3 → Wrote (lmcs chroma) d before after r → Wrote (payload 1 id chroma) (of_lmcs d) before after r
    unfolding payload
    lmcs-payload h w = wrote-provided (le-leb id (largest_id 1) h) (wrote-via of_lmcs lmcs_in is_lmcs refl w)

    pub scaling-payload : {l : List Entry} → id ≤ 7 → Wrote (scaling_syntax chroma) l before after r → Wrote (payload 2 id chroma) (of_scaling l) before after r
    unfolding payload
    scaling-payload h w = wrote-judged (λ p. leb id (largest_id 2)) (le-leb id (largest_id 2) h) (wrote-via of_scaling entries_in is_scaling refl w)

-- ---- the set

-- what is sent of a set is written as its fields one after another
pub set-wrote : {a : VvcAps} {x : ApsData} {before after : Writer} {r : Result (Unit {0}) Refusal} → from_aps a ≡ x → Wrote aps_syntax x before after r → Wrote aps a before after r
unfolding aps
set-wrote e w = wrote-via to_aps from_aps (λ a. true) refl (rw e w)

-- the extension flag is the last that is sent
pub extension-sent : (a : VvcAps) {x : ApsData} → from_aps a ≡ x → a.aps_extension_flag ≡ x.1.1.1.1
unfolding from_aps
extension-sent a e = ap (λ (x : ApsData). x.1.1.1.1) e

-- ---- the RBSP

-- what the exit of a `?` returns is the refusal that it met
pub closed-exit : (r : Result (Unit {0}) Refusal) (why : Refusal) (after : Writer) {o : Outcome (List ℕ)} → IsErrAnd r (λ e. e ≡ why) → refused (number why) ≡ o → closed r after ≡ o
closed-exit r why after h e = let p = err_from_is_err_and r h in rw (p.1, p.2) e

module _ (set : VvcAps) where
  -- a set with extension flag 1 is refused
  pub due-extended : set.aps_extension_flag ≡ true → refused 3 ≡ bytes_due set
  unfolding bytes_due rbsp_due
  due-extended x = sym (ap (λ (b : Bool). cond b (refused 3) (rbsp_due set)) x)

  -- of a set with extension flag 0 the RBSP is due
  pub due-plain : set.aps_extension_flag ≡ false → bytes_due set ≡ rbsp_due set
  unfolding bytes_due rbsp_due
  due-plain x = ap (λ (b : Bool). cond b (refused 3) (rbsp_due set)) x

  -- a set that the description does not take is refused
  pub due-refused : {before after : Writer} {why : Refusal} → Wrote aps set before after (Err why) → refused (number why) ≡ rbsp_due set
  unfolding writes rbsp_due
  due-refused {before} {why = why} w = go (aps.ok set) w.answer
    where
      go : (b : Bool) → refused (number why) ≡ cond b (value (put_bits (kept before) before.at (aps.emit set)) (before.at + length (aps.emit set))) (refused 2)
          → refused (number why) ≡ cond b (not_long (rbsp_bytes set)) (refused 2)
      go true e = absurd (value-refused (sym e))
      go false e = e

  module _ (before mid after : Writer) (start : before.at ≡ 0) (zeros : before.buffer ≡ replicate 2064 0) (w : Wrote aps set before mid (Ok tt))
      (e : value (kept after) after.at ≡ value (put_bits (kept mid) mid.at (trailing_bits mid.at)) (mid.at + length (trailing_bits mid.at))) where
    n : ℕ
    n = length (aps.emit set)

    -- the bytes kept are zeros at the start
    kept-zeros : kept before ≡ replicate 2048 0
    unfolding kept
    kept-zeros = rw zeros (take-replicate 2048 2064 0 (omega arith))

    -- the set stands at the start of them
    set-put : (aps.ok set ≡ true) × (kept mid ≡ put_bits (kept before) 0 (aps.emit set)) × (mid.at ≡ n)
    unfolding writes n
    set-put = go (aps.ok set) refl (w.answer ∙ ap (λ (p : ℕ). writes aps set (kept before) p) start)
      where
        go : (b : Bool) → aps.ok set ≡ b → value (kept mid) mid.at ≡ cond b (value (put_bits (kept before) 0 (aps.emit set)) (0 + length (aps.emit set))) (refused 2)
            → (aps.ok set ≡ true) × (kept mid ≡ put_bits (kept before) 0 (aps.emit set)) × (mid.at ≡ length (aps.emit set))
        go true o f = let g : mid.at ≡ 0 + length (aps.emit set) = cc in (o, cc, g ∙ zero-add _)
        go false o f = absurd (value-refused f)

    -- and its end after it
    end-put : (kept after ≡ put_bits (kept before) 0 (rbsp_bits set)) × (after.at ≡ length (rbsp_bits set))
    unfolding rbsp_bits n
    end-put =
        let at = mid.at in
        let (o, p, q) = set-put in
        let x : kept after ≡ put_bits (kept mid) at (trailing_bits at) = cc in
        let y : after.at ≡ at + length (trailing_bits at) = cc in
        let z : 0 + length (aps.emit set) ≡ at = zero-add _ ∙ sym q in
        let s : put_bits (kept before) 0 (rbsp_bits set) ≡ kept after = puts-append (kept before) 0 (aps.emit set) (trailing_bits n) ∙ rw z (rw (sym p, sym q) (sym x)) in
        (sym s, omega (arith, length-rbsp set, length-trailing at))

    -- they are whole bytes
    whole-bytes : length (rbsp_bytes set) ≡ after.at / 8
    unfolding rbsp_bytes n
    whole-bytes = omega (arith, end-put.1, length-pack (rbsp_bits set), length-rbsp set)

    -- over 2,048 they are refused
    pub due-long : 16384 < after.at → refused 4 ≡ rbsp_due set
    unfolding rbsp_due not_long n
    due-long h =
        let (o, p, q) = set-put in
        let l : 2048 < length (rbsp_bytes set) = omega (arith, whole-bytes, end-put.1, length-rbsp set) in
        rw (o, lt-ltb 2048 (length (rbsp_bytes set)) l)

    -- else they are the bytes due
    pub due-written : after.at ≤ 16384 → value (take (after.at / 8) (kept after)) (after.at / 8) ≡ rbsp_due set
    unfolding rbsp_due not_long rbsp_bytes
    due-written h =
        let (o, p, q) = set-put in
        let (x, y) = end-put in
        let b = rbsp_bits set in
        let m : length (kept before) ≡ 2048 = rw kept-zeros in
        let a : Holds (kept after) 0 b = rw (← x) at (puts-hold (kept before) 0 b (omega arith) (bits-rbsp set o)) in
        let k : Bytes (kept after) = rw x (bytes-puts (kept before) 0 b (omega arith) (bits-rbsp set o) (rw kept-zeros (zero-bytes 2048))) in
        let c : length (kept after) ≡ 2048 = rw x (length-puts (kept before) 0 b ∙ m) in
        let s : after.at / 8 ≡ length (pack b) = sym whole-bytes in
        let l : length (pack b) ≤ 2048 = omega arith in
        rw (← pack-is b (bits-rbsp set o) (kept after) (after.at / 8) k a (omega (arith, length-rbsp set)) (omega arith), s, o, le-ltb 2048 (length (pack b)) l)

module _ (a : VvcAps) where
  -- the bytes of a set that is taken are its RBSP, if they are not over 2,048
  pub due-taken : a.aps_extension_flag ≡ false → aps.ok a ≡ true → length (rbsp_bytes a) ≤ 2048 → bytes_due a ≡ value (rbsp_bytes a) (length (rbsp_bytes a))
  unfolding rbsp_due not_long
  due-taken x o s = due-plain a x ∙ rw (o, le-ltb 2048 (length (rbsp_bytes a)) s)

  -- a set of which bytes are due is taken, and they are its RBSP, which is not over 2,048
  pub taken-due : (l : List ℕ) (n : ℕ) → bytes_due a ≡ value l n
      → (a.aps_extension_flag ≡ false) × (aps.ok a ≡ true) × (l ≡ rbsp_bytes a) × (n ≡ length (rbsp_bytes a)) × (length (rbsp_bytes a) ≤ 2048)
  unfolding bytes_due rbsp_due not_long
  taken-due l n = go a.aps_extension_flag (aps.ok a) (ltb 2048 (length (rbsp_bytes a))) refl refl refl
    where
      go : (x o t : Bool) → a.aps_extension_flag ≡ x → aps.ok a ≡ o → ltb 2048 (length (rbsp_bytes a)) ≡ t
          → cond x (refused 3) (cond o (cond t (refused 4) (value (rbsp_bytes a) (length (rbsp_bytes a)))) (refused 2)) ≡ value l n
          → (a.aps_extension_flag ≡ false) × (aps.ok a ≡ true) × (l ≡ rbsp_bytes a) × (n ≡ length (rbsp_bytes a)) × (length (rbsp_bytes a) ≤ 2048)
      go true o t ex eo et e = absurd (value-refused (sym e))
      go false true true ex eo et e = absurd (value-refused (sym e))
      go false true false ex eo et e = let w : rbsp_bytes a ≡ l = cc in let m : length (rbsp_bytes a) ≡ n = cc in (ex, eo, sym w, sym m, ltb-false 2048 (length (rbsp_bytes a)) et)
      go false false t ex eo et e = absurd (value-refused (sym e))
