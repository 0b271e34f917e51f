use Rattle.std.proofs.Common.{◌≡◌, ◌<◌, ◌+◌, ℕ, List, [], ◌∷◌, ◌++◌, take, get_or, ap, ◌∙◌, sym, append_assoc, length}
use Rattle.std.proofs.lemmas.List.{append-nil, take_more}
use Rattle.std.proofs.lemmas.List.Concat.{flat_map-append}
use Rattle.std.specs.List.{flat_map}
use Rattle.row_bytes.specs.Rows.{node_bytes}
use Rattle.row_bytes.proofs.write.push_nodes.Goals as goal

-- one element more behind those that were appended
one_more : {X : Type 0} (f : X → List ℕ) (xs : List X) (i : ℕ) (x : X) (start out pushed : List ℕ) → i < length xs → x ≡ get_or xs i x
    → out ≡ start ++ flat_map f (take i xs) → pushed ≡ out ++ f x → pushed ≡ start ++ flat_map f (take (i + 1) xs)
one_more f xs i x start out pushed h is so e =
    e ∙ ap (λ t. t ++ f x) so ∙ append_assoc start (flat_map f (take i xs)) (f x)
    ∙ ap (λ t. start ++ t)
    (ap (λ t. flat_map f (take i xs) ++ t) (sym (append-nil (f x))) ∙ sym (flat_map-append f (take i xs) (x ∷ []))
    ∙ ap (λ y. flat_map f (take i xs ++ (y ∷ []))) is ∙ ap (flat_map f) (sym (take_more xs i x h)))

pub loop-node-preserved : goal.loop-node-preserved
loop-node-preserved c =
    one_more node_bytes c.args.nodes.now c.loop-node.node-index c.node-item.result c.args.out.now.items c.loop-node.out.items _
    c.loop-node-test.true c.node-item.is c.loop-node.invariant c.in_ok-push_node.ensures
