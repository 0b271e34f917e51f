use Rattle.std.proofs.Common.{◌≡◌, List, ap, sym, ◌∙◌}
use Rattle.std.proofs.lemmas.Option.{same_Some}
use Rattle.std.specs.Option.{option_map}
use Rattle.std.specs.Prelude.{Option, Some}
use Rattle.mat_tree.specs.Parts.{HasTree, Part, below, declared_by}
use Rattle.mat_tree.specs.Trees.{what_at}
use Rattle.mat_tree.specs.declared.flat.Flat.{Flat}
use Rattle.region_port.specs.Disks.{disk_content}
use Rattle.region_port.specs.Memory.{part_of}
use Rattle.region_port.proofs.tests.settle_at.Goals as goal

-- a part has a tree where the same part has it
same_tree : (part now : Part) (tree nodes : List Flat) → ◌≡◌ {A = Option Part} (Some now) (Some part) → nodes ≡ tree → HasTree part tree → HasTree now nodes
same_tree part now tree nodes e f has rel =
    ap (λ (p : Part). option_map declared_by (p rel)) (same_Some now part e) ∙ has rel ∙ ap (λ (l : List Flat). what_at l rel) (sym f)

pub settle-requires : goal.settle-requires
settle-requires c =
    let part = below c.args.path.now (disk_content c.args.disk.now) in
    same_tree part (part_of c.arm.new.self) c.in_ok-nodes.nodes.items c.as_slice.result.now (ap Some c.arm.ensures.same.0 ∙ c.in_ok-region.ensures.part) c.as_slice.ensures.value c.in_ok-nodes.ensures.ok

pub settle-requires-2 : goal.settle-requires-2
settle-requires-2 c =
    let part = below c.args.path.now (disk_content c.args.disk.now) in
    same_tree part (part_of c.in_ok-region.region) c.in_ok-nodes.nodes.items c.as_slice-2.result.now c.in_ok-region.ensures.part c.as_slice-2.ensures.value c.in_ok-nodes.ensures.ok
