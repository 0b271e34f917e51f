-- What a make leaves of a tree: nothing but its nodes.
use Rattle.std.proofs.lemmas.Bool.{or_parts}
use Rattle.std.proofs.Common.{◌≡◌, ℕ, Bool, true, false, List, [], ◌∷◌, ◌++◌, map, Some, None, cond, refl, ap, ◌∙◌}
use Rattle.std.specs.List.{list_any}
use Rattle.std.specs.Option.{is_some}
use Rattle.std.proofs.lemmas.Cmp.{lists_equiv, nat_list_eq_equiv}
use Rattle.mat_path.specs.Names.{same_names}
use Rattle.mat_tree.specs.declared.flat.Flat.{Flat}
use Rattle.mat_tree.specs.declared.flat.What.{What}
use Rattle.mat_tree.specs.declared.flat.What.TheVariants as what
use Rattle.mat_tree.specs.Trees.{has_node, is_at}
use Rattle.fetch_port.specs.Fetches.{Blobs}
use Rattle.write_plan.specs.declared.act.Act.TheVariants as act
use Rattle.write_plan.specs.declared.method.Method.{Method}
use Rattle.write_plan.specs.Plans.{act_of, act_what}
use Rattle.buckd.specs.Making.{Nodes, act_failure, acts_done, left_by, left_by_one, make_acts, method_for, no_nodes}

-- a node that is put leaves each other place
put_elsewhere : (way : Method) (rel place : List (List ℕ)) (node : What) (nodes : Nodes) → same_names rel place ≡ false →
    left_by_one (act_what way false rel node) nodes place ≡ nodes place
put_elsewhere way rel place (what.File digest exec) nodes off =
    ap (λ (b : Bool). cond b (Some (what.File digest exec)) (nodes place)) ((lists_equiv nat_list_eq_equiv).symm place rel ∙ off)
put_elsewhere way rel place what.Dir nodes off =
    ap (λ (b : Bool). cond b (Some what.Dir) (nodes place)) ((lists_equiv nat_list_eq_equiv).symm place rel ∙ off)
put_elsewhere way rel place (what.Link target) nodes off =
    ap (λ (b : Bool). cond b (Some (what.Link target)) (nodes place)) ((lists_equiv nat_list_eq_equiv).symm place rel ∙ off)

-- acts up to the first that fails leave each place where no node of theirs is
left_elsewhere : (blobs : Blobs) (way : Method) (tree : List Flat) (place : List (List ℕ)) (nodes : Nodes) → list_any (is_at place) tree ≡ false →
    left_by (acts_done blobs (map (act_of way false) tree ++ act.Sync ∷ [])) nodes place ≡ nodes place
left_elsewhere blobs way [] place nodes off = refl
left_elsewhere blobs way (node ∷ tree) place nodes off =
    let parts = or_parts (is_at place node) (list_any (is_at place) tree) off in
    elim (is_some (act_failure blobs (act_of way false node))) as
    (λ b. left_by (cond b [] (act_of way false node ∷ acts_done blobs (map (act_of way false) tree ++ act.Sync ∷ []))) nodes place ≡ nodes place) [
      | true ↦ refl
      | false ↦
          left_elsewhere blobs way tree place (left_by_one (act_of way false node) nodes) parts.1
          ∙ put_elsewhere way node.rel place node.what nodes parts.0
    ]

-- a make leaves nothing where its tree has no node
pub left_none : (blobs : Blobs) (held : Bool) (tree : List Flat) (place : List (List ℕ)) → has_node tree place ≡ false →
    left_by (acts_done blobs (make_acts held tree)) no_nodes place ≡ None
left_none blobs held tree place off = left_elsewhere blobs (method_for held) tree place no_nodes off
