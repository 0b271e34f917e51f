-- What comes behind some names, or behind all at and below them too.
use Rattle.std.proofs.Common.{◌≡◌, ℕ, Bool, true, false, cond, List, [], ◌∷◌, ◌++◌, refl, ◌∙◌, sym, ap}
use Rattle.std.specs.List.{filter, find, slice_get}
use Rattle.std.specs.Option.{option_map}
use Rattle.std.specs.declared.option.Option.{Option}
use Rattle.std.specs.declared.option.Option.TheVariants.{Some, None}
use Rattle.path_trie.specs.declared.entry.Entry.{Entry}
use Rattle.path_trie.specs.declared.node.Node.{Node, out-Node}
use Rattle.path_trie.specs.declared.node.Edge.{Edge}
use Rattle.path_trie.specs.Entries.{is_behind, is_beyond, is_past, value_of}
use Rattle.path_trie.specs.Nodes.{own, below_all, below_node}
use Rattle.path_trie.proofs.Below.{behind_is, behind_not, behind_same}
use Rattle.path_trie.proofs.Kept.{all_behind}
use Rattle.path_trie.proofs.Lists.{find_first, first_of}
use Rattle.path_trie.proofs.Seeks.{IsBeyond, first_is}
use Rattle.path_trie.proofs.Splices.{filter_none, none_past, past_is, past_not, past_same}
use Rattle.path_trie.proofs.Told.{below_node_out}

behind_here : {T : Type 0} (v : Option T) (es : List (Edge T)) → filter (is_behind []) (own v ++ below_all es) ≡ below_all es
behind_here None es = all_behind es
behind_here (Some v) es = all_behind es

behind_past : {T : Type 0} (v : Option T) (name : List ℕ) (more : List (List ℕ)) (xs : List (Entry T)) → filter (is_behind (name ∷ more)) (own v ++ xs) ≡ filter (is_behind (name ∷ more)) xs
behind_past None name more xs = refl
behind_past (Some v) name more xs = refl

past_past : {T : Type 0} (v : Option T) (name : List ℕ) (more : List (List ℕ)) (xs : List (Entry T)) → filter (is_past (name ∷ more)) (own v ++ xs) ≡ filter (is_past (name ∷ more)) xs
past_past None name more xs = refl
past_past (Some v) name more xs = refl

pub beyond_law : {T : Type 0} (past : Bool) → IsBeyond (is_beyond {V = T} past)
beyond_law false = record { own = behind_past; front = behind_not; back = behind_is; same = behind_same }
beyond_law true = record { own = past_past; front = past_not; back = past_is; same = past_same }

pub beyond_root : {T : Type 0} (n : Node T) (es : List (Edge T)) (names : List (List ℕ)) (past : Bool) → es ≡ (out-Node T n).edges.items → names ≡ []
    → option_map value_of (cond past None (slice_get (below_all es) 0)) ≡ option_map value_of (find (is_beyond past names) (below_node n))
beyond_root {T} n es names false same split =
    ap (option_map value_of)
    (first_is (below_all es)
    ∙ sym (ap (λ p. find (is_behind p) (below_node n)) split ∙ find_first (is_behind []) (below_node n)
    ∙ ap (λ t. first_of (filter (is_behind []) t)) (below_node_out n)
    ∙ ap first_of (behind_here (out-Node T n).value (out-Node T n).edges.items ∙ ap below_all (sym same))))
beyond_root {T} n es names true same split =
    sym (ap (option_map value_of)
    (ap (λ p. find (is_past p) (below_node n)) split ∙ find_first (is_past []) (below_node n) ∙ ap first_of (filter_none (is_past []) none_past (below_node n))))
