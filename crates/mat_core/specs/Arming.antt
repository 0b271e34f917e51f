-- The state store of a core is made to fail, where it is one in memory.
use Rattle.std.specs.Prelude.{◌≡◌}
use Rattle.keep_port.specs.Memory.{keeper_faults, keeper_rows}
use Rattle.keep_port.specs.declared.mem_keeper.MemKeeper.{MemKeeper}
use Rattle.mat_core.specs.Cores.{Seen}

-- a core is what it was, and so is what its state store has
pub record IsSameBut {D : Type 0} (old new : Seen D MemKeeper) : Type 0 where
  pub only : new ≡ record old { keeper = new.keeper }
  pub rows : keeper_rows new.keeper ≡ keeper_rows old.keeper
  pub faults : keeper_faults new.keeper ≡ keeper_faults old.keeper
