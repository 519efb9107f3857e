-- The RBSP of a set, read and written: the set, then with extension flag 0 the stop bit and zeros to the byte's end.
use Rattle.std.specs.Prelude.{cond, List, ◌++◌, ℕ, ltb, length}
use Rattle.bitstream.specs.Outcome.{Outcome, value, refused, ◌then◌}
use Rattle.bitstream.specs.Bits.{pack}
use Rattle.bitstream.specs.Fields.{read_trailing, trailing_bits}
use Rattle.aps.specs.ApsSyntax.{aps}
use Rattle.aps.specs.declared.aps.VvcAps.{VvcAps}

-- the set and the bit where reading ended; with extension flag 1 nothing more is read
unfoldable pub closed : List ℕ → VvcAps → ℕ → Outcome VvcAps
closed s a q = cond a.aps_extension_flag (value a q) (read_trailing s q then λ e r. value a r)

unfoldable pub read_rbsp : List ℕ → Outcome VvcAps
read_rbsp s = aps.read s 0 then λ a q. closed s a q

-- `parse_aps_rbsp`. 4: the RBSP is over 2,048 bytes
unfoldable pub parse_aps_rbsp : List ℕ → Outcome VvcAps
parse_aps_rbsp s = cond (ltb 2048 (length s)) (refused 4) (read_rbsp s)

-- the bits of a set with extension flag 0, stop bit and padding included
unfoldable pub rbsp_bits : VvcAps → List ℕ
rbsp_bits a = aps.emit a ++ trailing_bits (length (aps.emit a))

-- the bytes of a set that the writer takes
unfoldable pub rbsp_bytes : VvcAps → List ℕ
rbsp_bytes a = pack (rbsp_bits a)
