-- How an act begins, and how the bytes of a file first come.
use Rattle.std.specs.Prelude.{◌≡◌, Bool, true, false, List, [], ◌∷◌, ◌++◌}
use Rattle.mat_tree.specs.declared.flat.Flat.{Flat}
use Rattle.write_plan.specs.Plans.{supply_of}
use Rattle.write_plan.specs.declared.act.Supply.{Supply}
use Rattle.write_plan.specs.declared.act.Supply.TheVariants as supply
use Rattle.job_run.specs.Growing.{dir_node, link_node}
use Rattle.job_run.specs.Orders.{IsLeft}
use Rattle.job_run.specs.Readings.{HasGiven}
use Rattle.job_run.specs.Stages.{filing_node}
use Rattle.job_run.specs.declared.states.Doing.{Doing}
use Rattle.job_run.specs.declared.states.Doing.TheVariants as doing
use Rattle.job_run.specs.declared.states.Filling.{Filling}
use Rattle.job_run.specs.declared.states.Filling.TheVariants as filling
use Rattle.job_run.specs.declared.states.Order.{Order}
use Rattle.job_run.specs.declared.states.Source.{Source}
use Rattle.job_run.specs.declared.states.Source.TheVariants as source

-- whether bytes from somewhere need no reading
abbrev pub is_known : Supply → Bool
is_known supply.Empty = true
is_known supply.Held = true
is_known supply.Store = false
is_known (supply.Loan rel) = false

-- what is read as a supply
abbrev pub supply_from : Source → Supply
supply_from source.Store = supply.Store
supply_from (source.Loan rel) = supply.Loan rel

-- no byte of a file was put yet, and its bytes come from there
abbrev pub BeginsFrom : Supply → Filling → Type 0
BeginsFrom from (filling.Held at) = (at ≡ 0) × (is_known from ≡ true)
BeginsFrom from (filling.Due source reading) = (supply_from source ≡ from) × HasGiven reading []
BeginsFrom from (filling.Got source at piece more) = ⊥

-- behind some nodes an act begins
abbrev pub Begins : List Flat → Order → Doing → Type 0
Begins nodes order (doing.Dir rel) = IsLeft order (nodes ++ dir_node rel ∷ [])
Begins nodes order (doing.Link rel target) = IsLeft order (nodes ++ link_node rel target ∷ [])
Begins nodes order (doing.File filing how) =
    IsLeft order (nodes ++ filing_node filing ∷ []) × BeginsFrom (supply_of order.method order.lent filing.rel filing.digest) how
Begins nodes order doing.Sync = order.tree ≡ nodes
