-- `pass_run`: the bytes up to the first zero byte, as std finds it.
use mathlib.Core.Path.{◌≡◌, ◌∙◌}
use lib.Dec.{eqb}
use Rattle.std.proofs.Common.{rules, tests}
use Rattle.std.proofs.lemmas.Iterator.{YieldsList-from_slice}
use Rattle.std.proofs.lemmas.Iterator.Search.{position_from_yields_List}
use Rattle.recording.proofs.RunLaws.{found-first, passed-found}
use Rattle.recording.proofs.recording.Recording.pass_run.Goals as goal

pub returns : goal.returns
returns c =
    let r = c.args.self.now in
    let s = c.args.s.now in
    let found = position_from_yields_List (λ b. eqb b 0) _ _ c.position.result c.position.ensures.ran (YieldsList-from_slice s c.iter.ensures.rest) (λ x b q k. search (rules, tests)) in
    let n = c.unwrap_or-n.ensures ∙ found-first s c.position.result found in
    let e : r.scan.phase ≡ 1 = search rules in
    let f : r.scan.zeros ≡ 0 = search rules in
    passed-found r s c.unwrap_or-n.result c.more-self.result c.push_all.new.self e f n c.push_all.ensures c.more-self.ensures
