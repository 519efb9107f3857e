-- `skip_zeros`: the first byte that is not 0, as std finds it.
use Prim.Native.Nat.{◌+◌}
use mathlib.Core.Path.{◌≡◌, ◌∙◌}
use mathlib.Core.Bool.{not}
use lib.Dec.{eqb}
use lib.ListN.{length, drop}
use Rattle.std.proofs.Common.{rules, tests, arith}
use Rattle.std.proofs.lemmas.Iterator.{YieldsList-from_slice}
use Rattle.std.proofs.lemmas.Iterator.Search.{position_from_yields_List}
use Rattle.std.proofs.lemmas.List.{take_rest}
use Rattle.std.specs.Option.{MatchOption}
use Rattle.aps_table.proofs.SplitTurns.{skipped}
use Rattle.aps_table.proofs.split.Cursor.skip_zeros.Goals as goal

pub returns : goal.returns
returns c =
    let s = c.args.self.bytes.now in
    let at = c.args.self.at in
    let found = position_from_yields_List (λ b. not (eqb b 0)) _ _ c.position.result c.position.ensures.ran (YieldsList-from_slice (drop at s) (c.iter.ensures.rest ∙ take_rest s at)) (λ x b q k. search (rules, tests)) in
    let m : MatchOption c.position.result (c.map_or.result ≡ length s) (λ n. c.map_or.result ≡ at + n) = search rules in
    skipped s at _ (omega (arith, c.args.self.inside)) found m
