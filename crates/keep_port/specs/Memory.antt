-- A state store in memory, as contracts see it.
use Rattle.std.specs.Prelude.{ℕ, List}
use Rattle.keep_port.specs.Rows.{Watch}
use Rattle.keep_port.specs.declared.mem_keeper.MemKeeper.{MemKeeper}
use Rattle.keep_port.specs.declared.row.RawRow.{RawRow}

-- its rows
abbrev pub keeper_rows : MemKeeper → List RawRow
keeper_rows keeper = keeper.rows.items

-- its faults
abbrev pub keeper_faults : MemKeeper → ℕ
keeper_faults keeper = keeper.faults

-- its calls, and what was called for
abbrev pub keeper_watch : MemKeeper → Watch
keeper_watch keeper = record { calls = keeper.calls; armed = keeper.armed; halted = keeper.halted; met = keeper.met }
