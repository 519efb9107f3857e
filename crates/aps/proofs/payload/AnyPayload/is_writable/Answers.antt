-- `is_writable`: a set of another kind does not fit; of one of this kind what is sent is what is sent of its kind alone.
use mathlib.Core.Path.{sym, ap, ◌∙◌}
use denote.Enum.Bare.{differs_true, differs_false}
use Rattle.aps.specs.ApsSyntax.{number_of}
use Rattle.aps.specs.Writing.{plain, writable}
use Rattle.aps.specs.contracts.aps.ApsKind.{the_type}
use Rattle.aps.proofs.FitLaws.{kind-of-head, other-unfit, own-fit, plain-sent}
use Rattle.aps.proofs.payload.AnyPayload.is_writable.Goals as goal

pub returns-then-ne : goal.returns-then-ne
returns-then-ne g c =
    let s = c.args.set.now in
    let a = g.P.Coded.set s.head s.payload in
    let head = g.met.P.Coded.head_is s.head s.payload in
    let n = differs_true the_type _ _ (sym c.ne.ensures ∙ c.if-ne.true) in
    sym (other-unfit _ a (λ e. n (sym (kind-of-head a s.head head) ∙ e ∙ sym c.KIND.ensures)))

pub returns : goal.returns
unfolding writable
returns g c =
    let coded = g.met.P.Coded in
    let s = c.args.set.now in
    let a = g.P.Coded.set s.head s.payload in
    let head = coded.head_is s.head s.payload in
    let k = kind-of-head a s.head head ∙ differs_false the_type tt _ _ (sym c.ne.ensures ∙ c.if-ne.false) ∙ c.KIND.ensures in
    let part = ap (λ p. (number_of g.P.Coded.KIND, (a.aps_adaptation_parameter_set_id, (a.aps_chroma_present_flag, (g.P.Coded.sent a.aps_chroma_present_flag p, a.aps_extension_flag))))) (coded.part_is s.head s.payload) in
    let sent = sym (coded.sent_part a k) ∙ coded.sent_alone _ _ _ _ ∙ part in
    c.is_taken.ensures (plain a) (plain-sent a s.head head _ (λ chroma. g.P.Coded.sent chroma s.payload) sent) ∙ sym (own-fit _ a k)
