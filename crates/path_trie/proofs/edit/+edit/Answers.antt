use Rattle.std.proofs.Common.{refl, ap, sym, ◌∙◌, get_or, length, subst, arith}
use Rattle.std.proofs.lemmas.List.{length-set, get_or-set_other}
use Rattle.path_trie.specs.declared.entry.Entry.{Entry}
use Rattle.path_trie.specs.declared.node.Edge.{Edge}
use Rattle.path_trie.specs.Edits.{IsEdited}
use Rattle.path_trie.proofs.Edits.{front_edited, node_edited, node_well, well_edited}
use Rattle.path_trie.proofs.edit.+edit.Goals as goal

pub edit_all-loop-edge-preserved : goal.edit_all-loop-edge-preserved
edit_all-loop-edge-preserved g t c =
    let edited = subst (λ (e : Edge (Entry g.row.V.Denot)). IsEdited (g.E.Edit.edited c.args.by.now) e c.edit_edge.new.edge) (sym c.edge-item.is) c.edit_edge.ensures in
    let olds = ap (λ es. get_or es c.loop-edge.edge-index c.edge-item.result) c.deref_mut-edge-items.ensures.value in
    let same = ap length c.deref_mut-edge-items.ensures.value in (
      (
        length-set c.loop-edge.edge-items c.loop-edge.edge-index c.edit_edge.new.edge ∙ c.loop-edge.invariant.0.0,
        λ j d le. get_or-set_other c.loop-edge.edge-items c.loop-edge.edge-index j c.edit_edge.new.edge d (λ e. omega (arith, le, e)) ∙ c.loop-edge.invariant.0.1 j d (omega (arith, le)),
      ),
      front_edited (g.E.Edit.edited c.args.by.now) c.loop-edge.edge-items c.args.edges.now.items c.loop-edge.edge-index c.edge-item.result c.edit_edge.new.edge
          (omega arith) (omega (arith, same)) (c.edge-item.is ∙ c.loop-edge.invariant.0.1 c.loop-edge.edge-index c.edge-item.result (omega arith) ∙ olds) edited c.loop-edge.invariant.1,
      well_edited (g.E.Edit.edited c.args.by.now) c.loop-edge.edge-items c.loop-edge.edge-index c.edge-item.result c.edit_edge.new.edge c.edge-item.is edited ∙ c.loop-edge.invariant.2,
    )

pub edit_at-returns-clause-list : goal.edit_at-returns-clause-list
edit_at-returns-clause-list g t c = node_edited (g.E.Edit.edited c.args.by.now) c.args.node.now _ c.edit_own.ensures c.edit_all.ensures.list

pub edit_at-returns-clause-well : goal.edit_at-returns-clause-well
edit_at-returns-clause-well g t c =
    node_well c.args.node.now _ (g.E.Edit.edited c.args.by.now) refl
    (node_edited (g.E.Edit.edited c.args.by.now) c.args.node.now _ c.edit_own.ensures c.edit_all.ensures.list) c.edit_all.ensures.well
