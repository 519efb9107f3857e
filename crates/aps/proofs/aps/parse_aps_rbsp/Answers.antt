-- `parse_aps_rbsp`: by its kind the set, the arrays of the other kinds 0.
use Rattle.std.proofs.Common.{rules, ◌≡◌, Err}
use mathlib.Core.Path.{ap, ◌∙◌}
use Rattle.aps.specs.ApsSyntax.{empty_set, zero_alf, zero_lmcs, zero_scaling}
use Rattle.aps.specs.declared.aps.VvcAps.{VvcAps}
use Rattle.aps.proofs.aps.parse_aps_rbsp.Goals as goal
use Rattle.aps.proofs.aps.parse_aps_rbsp.Goals.{in-Alf+in_ok-reading-in-Alf, in-Lmcs+in_ok-reading-in-Lmcs, in-Scaling+in_ok-reading-in-Scaling}

-- the arrays of the set before a payload is read
none-sent : {a : VvcAps} → a ≡ empty_set → (a.alf ≡ zero_alf) × (a.lmcs ≡ zero_lmcs) × (a.scaling ≡ zero_scaling)
unfolding empty_set
none-sent e = (ap (λ a. a.alf) e, ap (λ a. a.lmcs) e, ap (λ a. a.scaling) e)

pub read-requires : goal.read-requires
read-requires c = (c.in-Alf.is, (none-sent c.default-set.ensures).0)

pub returns-in_err-reading-in-Alf : goal.returns-in_err-reading-in-Alf
returns-in_err-reading-in-Alf c =
    let e : c.from_residual-in_err-reading-in-Alf.result ≡ Err c.in_err-reading-in-Alf.field-0.0 = search rules in
    rw e (c.in_err-reading-in-Alf.ensures ∙ c.in_ok-opened.ensures)

pub read-requires-in-Lmcs : goal.read-requires-in-Lmcs
read-requires-in-Lmcs c = (c.in-Lmcs.is, (none-sent c.default-set.ensures).1)

pub returns-in_err-reading-in-Lmcs : goal.returns-in_err-reading-in-Lmcs
returns-in_err-reading-in-Lmcs c =
    let e : c.from_residual-in_err-reading-in-Lmcs.result ≡ Err c.in_err-reading-in-Lmcs.field-0.0 = search rules in
    rw e (c.in_err-reading-in-Lmcs.ensures ∙ c.in_ok-opened.ensures)

pub read-requires-in-Scaling : goal.read-requires-in-Scaling
read-requires-in-Scaling c = (c.in-Scaling.is, (none-sent c.default-set.ensures).2)

pub returns-in_err-reading-in-Scaling : goal.returns-in_err-reading-in-Scaling
returns-in_err-reading-in-Scaling c =
    let e : c.from_residual-in_err-reading-in-Scaling.result ≡ Err c.in_err-reading-in-Scaling.field-0.0 = search rules in
    rw e (c.in_err-reading-in-Scaling.ensures ∙ c.in_ok-opened.ensures)

pub returns : goal.returns
returns c =
    let none = none-sent c.default-set.ensures in
    elim c.match-opened.branch [
      | in-Alf+in_ok-reading-in-Alf w ↦ rw (w.set-is, w.reading-is, none.1, none.2) (w.in_ok-reading-in-Alf.ensures ∙ c.in_ok-opened.ensures)
      | in-Lmcs+in_ok-reading-in-Lmcs w ↦ rw (w.set-is, w.reading-is, none.0, none.2) (w.in_ok-reading-in-Lmcs.ensures ∙ c.in_ok-opened.ensures)
      | in-Scaling+in_ok-reading-in-Scaling w ↦ rw (w.set-is, w.reading-is, none.0, none.1) (w.in_ok-reading-in-Scaling.ensures ∙ c.in_ok-opened.ensures)
    ]
