-- Calls of the disk.
use Rattle.std.proofs.Common.{◌≡◌, Bool, false, Option, inl, inr, refl}
use Rattle.std.specs.Option.{option_map}
use Rattle.mat_io.specs.Watches.{FailsSo, Watch, after_call}
use Rattle.restart_scan.specs.Scans.{CallsBy, IsOneCall}
use Rattle.restart_scan.specs.declared.refusal.ScanRefusal.TheVariants as refusal

pub one_call : (failed : Bool) (before after : Option Watch) → after ≡ option_map after_call before → FailsSo before failed → IsOneCall failed before after
one_call failed before after made fails = record { made = made; fails = fails }

pub wanted_call : (before after : Option Watch) → after ≡ option_map after_call before → FailsSo before false → CallsBy refusal.NoMemory before after
wanted_call before after made fails = inr (record { made = made; fails = fails })

pub no_call : (watch : Option Watch) → CallsBy refusal.NoMemory watch watch
no_call watch = inl refl

pub call_then_want : (before after : Option Watch) → IsOneCall false before after → CallsBy refusal.NoMemory before after
call_then_want before after call = inr call
