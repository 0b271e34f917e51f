use Rattle.std.proofs.Common.{get_or, ap, sym, ◌++◌, ◌∙◌, map, arith}
use Rattle.std.proofs.lemmas.List.{nil_from_length}
use Rattle.path_trie.specs.Walks.{kept_path}
use Rattle.path_trie.specs.Nodes.{below_node}
use Rattle.path_trie.proofs.Kept.{child_well, in_order, names_split, well_edges}
use Rattle.path_trie.proofs.WalkLemmas.{all_over, gathered_below, gathered_none, ok_so}
use Rattle.path_trie.proofs.walk.+gather_at.Goals as goal

pub place_of-requires : goal.place_of-requires
place_of-requires g t c = in_order c.deref.result.now (well_edges c.args.node.now c.deref.result.now c.deref.ensures.value c.requires)

pub gather_at-requires : goal.gather_at-requires
gather_at-requires g t c κs within =
    let same = c.deref.ensures.value in
    (omega arith, (within, child_well c.deref.result.now c.in-Ok.place c.index.result.now (well_edges c.args.node.now c.deref.result.now same c.requires) c.in-Ok.ensures.within (c.index.ensures ∙ ap (λ t. get_or t c.in-Ok.place c.index.result.now) (sym same))))

pub returns-in-empty : goal.returns-in-empty
returns-in-empty g t c =
    ok_so c.gather_all.result
    (λ e. e ∙ ap (λ t. c.args.found.now.items ++ map kept_path t) (all_over c.args.names.now (below_node c.args.node.now) (nil_from_length c.args.names.now (omega arith))))
    c.gather_all.ensures

pub returns-in-Ok : goal.returns-in-Ok
returns-in-Ok g t c =
    let same = c.deref.ensures.value in
    let names = names_split c.args.names.now c.name-item.result c.in-len1-up.len_at_least c.name-item.is in
    ok_so c.gather_at.result
    (gathered_below c.args.node.now c.deref.result.now c.args.names.now c.name-item.result _ c.in-Ok.place c.index.result.now c.args.found.now.items c.gather_own.new.found.items c.gather_at.new.found.items
    same names (well_edges c.args.node.now c.deref.result.now same c.requires) c.in-Ok.ensures.within c.in-Ok.ensures.found (c.index.ensures ∙ ap (λ t. get_or t c.in-Ok.place c.index.result.now) (sym same))
    c.in_ok-gather_own-in-len1-up.ensures)
    c.gather_at.ensures

pub returns-in-Err : goal.returns-in-Err
returns-in-Err g t c =
    let names = names_split c.args.names.now c.name-item.result c.in-len1-up.len_at_least c.name-item.is in
    gathered_none c.args.node.now c.deref.result.now c.args.names.now c.name-item.result _ c.in-Err.field-0 c.args.found.now.items c.gather_own.new.found.items
    c.deref.ensures.value names c.in-Err.ensures.before c.in-Err.ensures.behind c.in_ok-gather_own-in-len1-up.ensures
