-- What a make reads has a rel in the part that is lent.
use Rattle.std.proofs.Common.{◌≡◌, ℕ, true, false, List, [], ◌∷◌, ◌++◌, length, Option, Some, None, refl, ap, subst, ◌∙◌, append_assoc, nat_le}
use Rattle.std.specs.List.{list_all}
use Rattle.std.specs.Option.{is_some, option_map}
use Rattle.std.proofs.lemmas.Bool.{and_from, and_parts}
use Rattle.mat_path.specs.Names.{is_rel}
use Rattle.mat_tree.specs.Trees.{is_placed}
use Rattle.mat_tree.specs.declared.flat.Flat.{Flat}
use Rattle.region_port.proofs.Shown.{is_rel-behind}
use Rattle.model_laws.specs.WorkRules.{IsReadAtPaths}
use Rattle.write_plan.specs.Plans.{may_lend}
use Rattle.write_plan.specs.declared.method.Method.{Method}
use Rattle.write_plan.specs.declared.method.Method.TheVariants as method
use Rattle.write_plan.specs.declared.method.Origin.{Origin}
use Rattle.row_book.specs.declared.stock.Stock.{Stock}
use Rattle.core_devices.specs.declared.taking.Source.{Source}
use Rattle.mat_core.specs.Books.{way_in}
use Rattle.mat_core.specs.Choosing.{source_in}
use Rattle.mat_core.specs.Orders.{source_from}

-- where nothing is lent, nothing is asked
none_lent : (way : Method) (tree : List Flat) → may_lend way false tree ≡ true
none_lent way [] = refl
none_lent way (node ∷ tree) = none_lent way tree

-- behind the source's path, what lies at a path lies at a rel
all_lent : (source rest : List (List ℕ)) (stamp : ℕ) (from : Origin) (tree : List Flat) → list_all (is_placed (source ++ rest)) tree ≡ true →
    may_lend (method.Copy source rest stamp from) true tree ≡ true
all_lent source rest stamp from [] all = refl
all_lent source rest stamp from (node ∷ tree) all =
    let parts = and_parts (is_placed (source ++ rest) node) (list_all (is_placed (source ++ rest)) tree) all in
    let whole : is_rel ((source ++ rest) ++ node.rel) ≡ true =
    (and_parts (nat_le 1 (length ((source ++ rest) ++ node.rel))) (is_rel ((source ++ rest) ++ node.rel)) parts.0).1 in
    and_from (is_rel (rest ++ node.rel)) (may_lend (method.Copy source rest stamp from) true tree)
    (is_rel-behind source (rest ++ node.rel) (subst (λ (ns : List (List ℕ)). is_rel ns ≡ true) (append_assoc source rest node.rel) whole))
    (all_lent source rest stamp from tree parts.1)

pub reads_lend : (stocks : List Stock) (way : Method) (tree : List Flat) (source : Option Source) → source ≡ option_map source_from (source_in stocks way) →
    IsReadAtPaths (way_in way) tree → may_lend way (is_some source) tree ≡ true
reads_lend stocks (method.Write bytes) tree source is reads = ap (λ (o : Option Source). may_lend (method.Write bytes) (is_some o) tree) is ∙ none_lent (method.Write bytes) tree
reads_lend stocks method.Fetch tree source is reads = ap (λ (o : Option Source). may_lend method.Fetch (is_some o) tree) is ∙ none_lent method.Fetch tree
reads_lend stocks (method.Copy path rest stamp from) tree None is reads = none_lent (method.Copy path rest stamp from) tree
reads_lend stocks (method.Copy path rest stamp from) tree (Some source) is reads = all_lent path rest stamp from tree reads
