-- The steps of the RBSP, as its reader takes them: by kind, the payload, the id where it is judged, the extension flag and the end.
use mathlib.Core.Path.{◌≡◌, refl, sym, ap, ◌∙◌}
use mathlib.Core.Bool.{Bool, true, false, cond}
use mathlib.Core.List.{List}
use Prim.Native.Nat.{ℕ, zero, suc, ◌+◌, ◌≤◌, ◌<◌}
use native.Mathlib.Omega.{arith}
use borrow.Author.Tests.{le-leb, lt-leb, le-ltb, lt-ltb}
use lib.Dec.{leb}
use lib.ListN.{length}
use Rattle.bitstream.specs.Outcome.{Outcome, value, refused, number, map_outcome, ◌then◌}
use Rattle.bitstream.specs.declared.Refusal.{Refusal}
use Rattle.bitstream.specs.Fields.{lacks, read_trailing}
use Rattle.aps.specs.Kinds.{largest_id}
use Rattle.aps.specs.Codec.{u, ◌▷◌, via, judged, provided, never}
use Rattle.aps.specs.Elements.{flag}
use Rattle.aps.specs.AlfSyntax.{alf}
use Rattle.aps.specs.LmcsSyntax.{lmcs}
use Rattle.aps.specs.ScalingSyntax.{Entry, scaling_syntax, keep}
use Rattle.aps.specs.ApsSyntax.{zero_alf, zero_lmcs, zero_scaling, Payload, of_alf, of_lmcs, of_scaling, payload, aps_syntax, to_aps, aps}
use Rattle.std.specs.Prelude.{Result}
use Rattle.std.specs.Result.{IsErrAnd}
use Rattle.std.proofs.lemmas.Result.{err_from_is_err_and}
use Rattle.aps.specs.declared.aps.ApsHead.{ApsHead}
use Rattle.aps.specs.Inner.{Opens, set_of, with_extension, ended, finished, extended}
use Rattle.aps.specs.Reading.{assembled}
use Rattle.aps.specs.Heading.{Headed}
use Rattle.aps.specs.Rbsp.{closed, read_rbsp, parse_aps_rbsp}
use Rattle.aps.specs.declared.alf.VvcAlfData.{VvcAlfData}
use Rattle.aps.specs.declared.lmcs.VvcLmcsData.{VvcLmcsData}
use Rattle.aps.specs.declared.scaling_list.VvcScalingListData.{VvcScalingListData}
use Rattle.aps.specs.declared.aps.ApsKind.{ApsKind}
use Rattle.aps.specs.declared.aps.VvcAps.{VvcAps}
use Rattle.aps.specs.declared.reader.Reader.{Reader}
use Rattle.aps.specs.declared.opened.Opened.{Opened}
use Rattle.aps.specs.Reads.{Reads}
use Rattle.aps.proofs.FieldSteps.{none-lacking, lacks-part, u-read, u-here, u-there, flag-read, flag-here, flag-there, run-lacking}
use Rattle.aps.proofs.FieldLaws.{lacks-none, lacks-inside}

-- the set that a payload makes
abbrev pub set_with : ℕ → Bool → Payload → VvcAps
set_with id chroma (of_alf d) = set_of ApsKind.Alf id chroma d zero_lmcs zero_scaling
set_with id chroma (of_lmcs d) = set_of ApsKind.Lmcs id chroma zero_alf d zero_scaling
set_with id chroma (of_scaling es) = set_of ApsKind.Scaling id chroma zero_alf zero_lmcs (keep es)

never-read : (k id : ℕ) (chroma : Bool) (s : List ℕ) → ((payload (suc (suc (suc k))) id chroma).read s 9 then λ d q. finished s (set_with id chroma d) q) ≡ refused 3
unfolding payload never
never-read k id chroma s = refl

-- ---- what stands before the payload

-- the set once its payload is read
set-of-data : (k id : ℕ) (chroma : Bool) (d : Payload) (x : Bool) → to_aps (k, (id, (chroma, (d, x)))) ≡ with_extension (set_with id chroma d) x
unfolding to_aps with_extension
set-of-data k id chroma (of_alf d) x = refl
set-of-data k id chroma (of_lmcs d) x = refl
set-of-data k id chroma (of_scaling es) x = refl

module _ (s : List ℕ) where
  syntax-lacking : lacks s 0 9 ≡ true → aps_syntax.read s 0 ≡ refused 1
  unfolding aps_syntax
  syntax-lacking =
      run-lacking s 0 6 (u 3) _ 3 _ (u-read 3 s 0)
      (λ kind. run-lacking s 3 1 (u 5) _ 5 _ (u-read 5 s 3)
      (λ id. run-lacking s 8 0 flag _ 1 _ (flag-read s 8) (λ chroma m. absurd (none-lacking s _ m))))

  -- bits are lacking for the kind, the id or the chroma flag
  pub head-lacking : lacks s 0 9 ≡ true → read_rbsp s ≡ refused 1
  unfolding read_rbsp aps via
  head-lacking l = rw (syntax-lacking l)

  pub not-read : {n : ℕ} → refused n ≡ aps.read s 0 → read_rbsp s ≡ refused n
  unfolding read_rbsp
  not-read e = rw (← e)

  -- the payload, then the extension flag and the end
  pub headed-payload : (k id : ℕ) (chroma : Bool) → Headed s k id chroma → read_rbsp s ≡ ((payload k id chroma).read s 9 then λ d q. finished s (set_with id chroma d) q)
  unfolding read_rbsp aps via aps_syntax ◌▷◌ finished
  headed-payload k id chroma H =
      let there : (q m : ℕ) → q + m ≤ 9 → lacks s q m ≡ false = λ q m. lacks-part s 0 9 q m H.there (omega arith) in
      rw (u-here 3 s 0 (there 0 3 (omega arith)), u-here 5 s 3 (there 3 5 (omega arith)), flag-here s 8 (there 8 1 (omega arith)), H.kind-is, H.id-is, H.chroma-is)
      (go ((payload k id chroma).read s 9))
    where
      last : (d : Payload) (o : Outcome Bool)
          → ((((((o then λ x r. value (d, x) r) then λ b r. value (chroma, b) r) then λ b r. value (id, b) r) then λ b r. value (k, b) r) then λ a q. value (to_aps a) q) then λ a q. closed s a q)
          ≡ (o then λ x r. closed s (with_extension (set_with id chroma d) x) r)
      last d (value x r) = rw (set-of-data k id chroma d x)
      last d (refused n) = refl

      go : (o : Outcome Payload)
          → ((((((o then λ d q. (flag.read s q then λ x r. value (d, x) r)) then λ b r. value (chroma, b) r) then λ b r. value (id, b) r) then λ b r. value (k, b) r) then λ a q. value (to_aps a) q) then λ a q. closed s a q)
          ≡ (o then λ d q. (flag.read s q then λ x r. closed s (with_extension (set_with id chroma d) x) r))
      go (value d q) = last d (flag.read s q)
      go (refused n) = refl

-- ---- by kind

module _ (s : List ℕ) (id : ℕ) (chroma : Bool) where
  module _ (H : Headed s 0 id chroma) where
    pub alf-refused : (n : ℕ) → (alf chroma).read s 9 ≡ refused n → read_rbsp s ≡ refused n
    unfolding payload judged via
    alf-refused n e = headed-payload s 0 id chroma H ∙ rw e

    module _ (d : VvcAlfData) (q : ℕ) (e : (alf chroma).read s 9 ≡ value d q) where
      pub alf-id : 7 < id → read_rbsp s ≡ refused 2
      unfolding payload judged via
      alf-id h = headed-payload s 0 id chroma H ∙ rw (e, lt-leb id (largest_id 0) h)

      pub alf-set : id ≤ 7 → read_rbsp s ≡ finished s (set_of ApsKind.Alf id chroma d zero_lmcs zero_scaling) q
      unfolding payload judged via
      alf-set h = headed-payload s 0 id chroma H ∙ rw (e, le-leb id (largest_id 0) h)

  module _ (H : Headed s 1 id chroma) where
    pub lmcs-id : 3 < id → read_rbsp s ≡ refused 2
    unfolding payload provided
    lmcs-id h = headed-payload s 1 id chroma H ∙ rw (lt-leb id (largest_id 1) h)

    pub lmcs-refused : id ≤ 3 → (n : ℕ) → (lmcs chroma).read s 9 ≡ refused n → read_rbsp s ≡ refused n
    unfolding payload provided via
    lmcs-refused h n e = headed-payload s 1 id chroma H ∙ rw (le-leb id (largest_id 1) h, e)

    pub lmcs-set : id ≤ 3 → (d : VvcLmcsData) (q : ℕ) → (lmcs chroma).read s 9 ≡ value d q → read_rbsp s ≡ finished s (set_of ApsKind.Lmcs id chroma zero_alf d zero_scaling) q
    unfolding payload provided via
    lmcs-set h d q e = headed-payload s 1 id chroma H ∙ rw (le-leb id (largest_id 1) h, e)

  module _ (H : Headed s 2 id chroma) where
    pub scaling-refused : (n : ℕ) → map_outcome keep ((scaling_syntax chroma).read s 9) ≡ refused n → read_rbsp s ≡ refused n
    unfolding payload judged via
    scaling-refused n e = headed-payload s 2 id chroma H ∙ go ((scaling_syntax chroma).read s 9) e
      where
        go : (o : Outcome (List Entry)) → map_outcome keep o ≡ refused n
            → (((o then λ a q. value (of_scaling a) q) then λ a q. cond (leb id (largest_id 2)) (value a q) (refused 2)) then λ d q. finished s (set_with id chroma d) q) ≡ refused n
        go (value es q) e = let z : ◌≡◌ {A = ℕ} 0 1 = cc in absurd (omega arith)
        go (refused m) e = let f : m ≡ n = cc in ap refused f

    module _ (d : VvcScalingListData) (q : ℕ) (e : map_outcome keep ((scaling_syntax chroma).read s 9) ≡ value d q) where
      kept : (o : Outcome (List Entry)) → map_outcome keep o ≡ value d q → (t : Bool)
          → (((o then λ a q. value (of_scaling a) q) then λ a q. cond t (value a q) (refused 2)) then λ d q. finished s (set_with id chroma d) q)
          ≡ cond t (finished s (set_of ApsKind.Scaling id chroma zero_alf zero_lmcs d) q) (refused 2)
      kept (value es r) e true = let (f, g) : (keep es ≡ d) × (r ≡ q) = (cc, cc) in rw (f, g)
      kept (value es r) e false = refl
      kept (refused m) e t = let z : ◌≡◌ {A = ℕ} 0 1 = cc in absurd (omega arith)

      pub scaling-id : 7 < id → read_rbsp s ≡ refused 2
      unfolding payload judged via
      scaling-id h = headed-payload s 2 id chroma H ∙ kept ((scaling_syntax chroma).read s 9) e (leb id (largest_id 2)) ∙ rw (lt-leb id (largest_id 2) h)

      pub scaling-set : id ≤ 7 → read_rbsp s ≡ finished s (set_of ApsKind.Scaling id chroma zero_alf zero_lmcs d) q
      unfolding payload judged via
      scaling-set h = headed-payload s 2 id chroma H ∙ kept ((scaling_syntax chroma).read s 9) e (leb id (largest_id 2)) ∙ rw (le-leb id (largest_id 2) h)

  pub other-kind : (k : ℕ) → Headed s k id chroma → 2 < k → read_rbsp s ≡ refused 3
  other-kind k H h = headed-payload s k id chroma H ∙ go k h
    where
      go : (k : ℕ) → 2 < k → ((payload k id chroma).read s 9 then λ d q. finished s (set_with id chroma d) q) ≡ refused 3
      go zero h = absurd (omega arith)
      go (suc zero) h = absurd (omega arith)
      go (suc (suc zero)) h = absurd (omega arith)
      go (suc (suc (suc k))) h = never-read k id chroma s

-- ---- how a set ends

-- what closes the RBSP, by the extension flag that was read
pub ended-finished : (s : List ℕ) (a : VvcAps) (q : ℕ) → map_outcome (with_extension a) (ended s q) ≡ finished s a q
unfolding ended finished closed with_extension
ended-finished s a q = first (flag.read s q)
  where
    last : (x : Bool) (r : ℕ) (o : Outcome (Unit {0}))
        → map_outcome (with_extension a) (cond x (value x r) (o then λ e t. value x t)) ≡ cond x (value (with_extension a x) r) (o then λ e t. value (with_extension a x) t)
    last true r o = refl
    last false r (value e t) = refl
    last false r (refused n) = refl

    first : (o : Outcome Bool)
        → map_outcome (with_extension a) (o then λ x r. cond x (value x r) (read_trailing s r then λ e t. value x t))
        ≡ (o then λ x r. cond x (value (with_extension a x) r) (read_trailing s r then λ e t. value (with_extension a x) t))
    first (value x r) = last x r (read_trailing s r)
    first (refused n) = refl

-- a set whose payload was read, by its head: what closes it, or why it is refused
pub set-closed : (s : List ℕ) (h : ApsHead) {kind : ApsKind} (d : VvcAlfData) (l : VvcLmcsData) (c : VvcScalingListData) (q : ℕ) {o : Outcome ApsHead}
    → h.kind ≡ kind → read_rbsp s ≡ finished s (set_of kind h.aps_adaptation_parameter_set_id h.aps_chroma_present_flag d l c) q → o ≡ map_outcome (extended h) (ended s q)
    → map_outcome (λ h. assembled h d l c) o ≡ read_rbsp s
unfolding with_extension
set-closed s h {kind} d l c q k e f = rw f (go (ended s q)) ∙ ended-finished s (set_of kind h.aps_adaptation_parameter_set_id h.aps_chroma_present_flag d l c) q ∙ sym e
  where
    go : (o : Outcome Bool)
        → map_outcome (λ h. assembled h d l c) (map_outcome (extended h) o)
        ≡ map_outcome (with_extension (set_of kind h.aps_adaptation_parameter_set_id h.aps_chroma_present_flag d l c)) o
    go (value x r) = rw k refl
    go (refused n) = refl

-- ---- the limit of the call

pub too_long : (s : List ℕ) → 2048 < length s → parse_aps_rbsp s ≡ refused 4
unfolding parse_aps_rbsp
too_long s h = rw (lt-ltb _ _ h)

pub in-limits : (s : List ℕ) → length s ≤ 2048 → parse_aps_rbsp s ≡ read_rbsp s
unfolding parse_aps_rbsp
in-limits s h = rw (le-ltb _ _ h)

-- ---- what stands before the payload, as the reader takes it

-- what is read of the opened bytes
pub opened : {s b : List ℕ} → length s ≤ 2048 → b ≡ s → read_rbsp b ≡ parse_aps_rbsp s
opened {s} short e = ap read_rbsp e ∙ sym (in-limits s short)

-- what `?` returns
pub opens-exit : (r : Result Opened Refusal) (e : Refusal) (s : List ℕ) → IsErrAnd r (λ y. y ≡ e) → parse_aps_rbsp s ≡ refused (number e) → Opens s r
opens-exit r e s h k = let p = err_from_is_err_and r h in rw (p.1, p.2) k

module _ {s : List ℕ} {w0 : Reader} (short : length s ≤ 2048) (new : (w0.bytes.now ≡ s) × (w0.at ≡ 0)) where
  pub open-refused : {n : ℕ} {w1 : Reader} → Reads aps (refused n) w0 w1 → parse_aps_rbsp s ≡ refused n
  open-refused r = in-limits s short ∙ not-read s (rw (new.0, new.1) at r.field)

  module _ {kind id : ℕ} {chroma : Bool} {w1 w2 w3 : Reader} (r : Reads (u 3) (value kind w1.at) w0 w1) (t : Reads (u 5) (value id w2.at) w1 w2) (f : Reads flag (value chroma w3.at) w2 w3) where
    pub headed : Headed s kind id chroma × (w3.bytes.now ≡ s) × (w3.at ≡ 9)
    headed =
        let b1 = r.bytes ∙ new.0 in
        let b2 = t.bytes ∙ b1 in
        let (l1, k1, p1) = u-there 3 s 0 (rw (new.0, new.1) at r.field) in
        let (l2, k2, p2) = u-there 5 s 3 (rw (b1, p1) at t.field) in
        let (l3, k3, p3) = flag-there s 8 (rw (b2, p2) at f.field) in (
          record { there = lacks-inside s 0 9 (omega (arith, lacks-none s 8 1 (omega arith) l3)); kind-is = sym k1; id-is = sym k2; chroma-is = sym k3 },
          f.bytes ∙ b2,
          p3,
        )
