-- `put_list`: nothing where the list is not coded, the delta where it is predicted.
use mathlib.Core.Path.{sym, ◌∙◌}
use Prim.Native.Nat.{◌/◌}
use native.Mathlib.Omega.{arith}
use Rattle.hevc_scaling.proofs.ListLaws.{explicit-some}
use Rattle.hevc_scaling.proofs.ListWrites.{flag-taken, list-none, list-explicit-writes, list-delta-writes, coded-bits}
use Rattle.hevc_scaling.proofs.scaling_list_write.put_list.Goals as goal

pub returns-then-not-is_coded-clause-wrote : goal.returns-then-not-is_coded-clause-wrote
returns-then-not-is_coded-clause-wrote c =
    let a = c.args in
    list-none a.id.number a.writer.now.buffer a.writer.now.at a.list.now (sym c.is_coded.ensures ∙ c.if-not-is_coded.true)

pub flag-requires : goal.flag-requires
flag-requires c =
    let b = coded-bits c.args.id.number (sym c.is_coded.ensures ∙ c.if-not-is_coded.false) in
    omega (arith, b, c.requires.room)

pub returns-in_err-flag : goal.returns-in_err-flag
returns-in_err-flag c = absurd (flag-taken _ _ _ (sym c.in_err-flag.ensures.wrote))

pub put_explicit-requires-clause-room : goal.put_explicit-requires-clause-room
put_explicit-requires-clause-room c =
    let b = coded-bits c.args.id.number (sym c.is_coded.ensures ∙ c.if-not-is_coded.false) in
    omega (arith, b, c.requires.room, c.in_ok-flag.ensures.within)

pub returns-then-list : goal.returns-then-list
returns-then-list c =
    let a = c.args in
    let coded = sym c.is_coded.ensures ∙ c.if-not-is_coded.false in
    let b = coded-bits a.id.number coded in
    record {
      wrote = list-explicit-writes a.id.number a.writer.now.buffer a.writer.now.at a.list.now coded c.if-list.true c.in_ok-flag.ensures.wrote c.put_explicit.ensures.wrote;
      within = omega (arith, b, c.put_explicit.ensures.within, c.in_ok-flag.ensures.within);
    }

pub ue_to-requires : goal.ue_to-requires
ue_to-requires c =
    let b = coded-bits c.args.id.number (sym c.is_coded.ensures ∙ c.if-not-is_coded.false) in
    (omega (arith, b, explicit-some (c.args.id.number / 6), c.requires.room, c.in_ok-flag.ensures.within), c.max_delta.ensures.1)

pub returns : goal.returns
returns c =
    let a = c.args in
    let coded = sym c.is_coded.ensures ∙ c.if-not-is_coded.false in
    let b = coded-bits a.id.number coded in
    record {
      wrote = list-delta-writes a.id.number a.writer.now.buffer a.writer.now.at a.list.now coded c.if-list.false c.in_ok-flag.ensures.wrote (rw c.max_delta.ensures.0 at c.ue_to.ensures.wrote);
      within = omega (arith, b, explicit-some (a.id.number / 6), c.ue_to.ensures.within, c.in_ok-flag.ensures.within);
    }
