-- The order of paths and rels agrees with their equality.
use Rattle.std.specs.Prelude.{◌≡◌, ℕ, List}
use Rattle.std.specs.Ordering.{eq_by_cmp}
use Rattle.std.specs.Cmp.Lexicographic.{lists_ties, texts_ties}
use Rattle.mat_path.specs.Names.{same_names, name_cmp, path_cmp}

-- two lists of names are the same exactly where neither comes first
pub same_names_ties : (p q : List (List ℕ)) → same_names p q ≡ eq_by_cmp path_cmp p q
same_names_ties p q = lists_ties name_cmp texts_ties p q
