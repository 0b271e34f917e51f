-- How many files a make may ask the store for.
use Rattle.std.specs.Prelude.{ℕ, if◌then◌else◌, List}
use Rattle.std.specs.List.{sum_by}
use Rattle.mat_tree.specs.declared.flat.Flat.{Flat}
use Rattle.mat_tree.specs.declared.flat.What.{What}
use Rattle.mat_tree.specs.declared.flat.What.TheVariants as what
use Rattle.write_plan.specs.Plans.{is_empty}
use Rattle.write_plan.specs.declared.method.Method.{Method}
use Rattle.job_run.specs.Orders.{own_supply}
use Rattle.job_run.specs.Stages.{own_asks}

-- each file but the empty ones is asked for at most once, and none where the row holds the bytes
abbrev pub what_asks : Method → What → ℕ
what_asks way (what.File digest exec) = if is_empty digest then 0 else own_asks (own_supply way)
what_asks way what.Dir = 0
what_asks way (what.Link target) = 0

abbrev pub node_asks : Method → Flat → ℕ
node_asks way node = what_asks way node.what

abbrev pub asks_of : Method → List Flat → ℕ
asks_of way tree = sum_by (node_asks way) tree
