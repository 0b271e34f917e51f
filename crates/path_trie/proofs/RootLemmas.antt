-- The entries of a trie as its root keeps them.
use Rattle.mat_path.proofs.SameNames.{same_names-refl}
use Rattle.mat_path.proofs.PathLemmas.{lt_less, path_cmp_total}
use Rattle.std.proofs.Common.{◌≡◌, ℕ, Bool, true, false, cond, List, [], ◌∷◌, ◌++◌, map, refl, ◌∙◌, sym, ap, subst}
use Rattle.std.proofs.lemmas.Bool.{and_from}
use Rattle.std.proofs.lemmas.List.{map-append}
use Rattle.std.specs.List.{filter, find, list_all}
use Rattle.std.specs.Option.{option_map}
use Rattle.std.specs.Ordering.{is_lt}
use Rattle.std.specs.Result.{IfErr, IfOk, is_ok}
use Rattle.std.specs.declared.result.Result.{Result}
use Rattle.std.specs.declared.result.Result.TheVariants.{Ok, Err}
use Rattle.std.specs.declared.option.Option.{Option}
use Rattle.std.specs.declared.option.Option.TheVariants.{Some}
use Rattle.mat_path.specs.Names.{path_cmp, same_names}
use Rattle.path_trie.specs.declared.entry.Entry.{Entry}
use Rattle.path_trie.specs.declared.node.Node.{Node}
use Rattle.path_trie.specs.Entries.{ascends, is_at, is_before, is_behind, is_elsewhere, is_less, put, value_at, value_of, without}
use Rattle.path_trie.specs.Nodes.{below_node, is_well}
use Rattle.path_trie.specs.Roots.{is_placed, shown, shown_all, value_put, IsTrie}
use Rattle.path_trie.proofs.Lists.{all_filter, all_join, filter_in, filter_passes}
use Rattle.path_trie.proofs.Order.{asc_around, asc_filter}

-- the value of an entry that is kept
abbrev pub kept_value : {V : Type 0} → Entry V → V
kept_value entry = entry.value

pub shown_value : {V : Type 0} (path : List (List ℕ)) (xs : List (Entry (Entry V))) → value_at path (map shown xs) ≡ option_map kept_value (value_at path xs)
shown_value path [] = refl
shown_value path (x ∷ xs) = by (is_at path x) (shown_value path xs)
  where
    by : (b : Bool) → option_map value_of (find (is_at path) (map shown xs)) ≡ option_map kept_value (option_map value_of (find (is_at path) xs))
        → option_map value_of (cond b (Some (shown x)) (find (is_at path) (map shown xs))) ≡ option_map kept_value (option_map value_of (cond b (Some x) (find (is_at path) xs)))
    by true e = refl
    by false e = e

pub shown_found : {V : Type 0} (root : Node (Entry V)) (path : List (List ℕ)) (o : Option (Entry V)) → o ≡ value_at path (below_node root)
    → option_map kept_value o ≡ value_at path (shown_all root)
shown_found root path o e = ap (option_map kept_value) e ∙ sym (shown_value path (below_node root))

pub shown_without : {V : Type 0} (path : List (List ℕ)) (xs : List (Entry (Entry V))) → map shown (without path xs) ≡ without path (map shown xs)
shown_without path xs = sym (filter_in shown (is_elsewhere path) (is_elsewhere path) (λ x. refl) xs)

pub shown_put : {V : Type 0} (path : List (List ℕ)) (entry : Entry V) (xs : List (Entry (Entry V))) → map shown (put path entry xs) ≡ put path entry.value (map shown xs)
shown_put path entry xs =
    map-append shown (filter (is_before path) xs) (record { path = path; value = entry } ∷ filter (is_behind path) xs)
    ∙ ap (λ t. t ++ (record { path = path; value = entry.value } ∷ map shown (filter (is_behind path) xs))) (sym (filter_in shown (is_before path) (is_before path) (λ x. refl) xs))
    ∙ ap (λ t. filter (is_before path) (map shown xs) ++ (record { path = path; value = entry.value } ∷ t)) (sym (filter_in shown (is_behind path) (is_behind path) (λ x. refl) xs))

pub trie_taken : {V : Type 0} (old new : Node (Entry V)) (path : List (List ℕ)) → IsTrie old → is_well new ≡ true → below_node new ≡ without path (below_node old) → IsTrie new
trie_taken old new path t w e = record {
  well = w;
  placed = ap (list_all is_placed) e ∙ all_filter is_placed (is_elsewhere path) (below_node old) t.placed;
  ascending = ap ascends e ∙ asc_filter is_less (is_elsewhere path) (below_node old) t.ascending;
}

less_trans : {T : Type 0} (a b c : Entry T) → is_less a b ≡ true → is_less b c ≡ true → is_less a c ≡ true
less_trans a b c f g = ap is_lt (path_cmp_total.trans a.path b.path c.path (lt_less (path_cmp a.path b.path) f) (lt_less (path_cmp b.path c.path) g))

pub trie_put : {V : Type 0} (old new : Node (Entry V)) (path : List (List ℕ)) (entry : Entry V) → IsTrie old → entry.path ≡ path → is_well new ≡ true
    → below_node new ≡ put path entry (below_node old) → IsTrie new
trie_put old new path entry t is w e = record {
  well = w;
  placed = ap (list_all is_placed) e
      ∙ all_join is_placed (filter (is_before path) (below_node old)) (record { path = path; value = entry } ∷ filter (is_behind path) (below_node old))
      (all_filter is_placed (is_before path) (below_node old) t.placed)
      (and_from (is_placed (record { path = path; value = entry })) (list_all is_placed (filter (is_behind path) (below_node old)))
      (ap (λ p. same_names p path) is ∙ same_names-refl path) (all_filter is_placed (is_behind path) (below_node old) t.placed));
  ascending = ap ascends e
      ∙ asc_around is_less less_trans (filter (is_before path) (below_node old)) (filter (is_behind path) (below_node old)) (record { path = path; value = entry })
      (asc_filter is_less (is_before path) (below_node old) t.ascending) (asc_filter is_less (is_behind path) (below_node old) t.ascending)
      (filter_passes (is_before path) (below_node old)) (filter_passes (is_behind path) (below_node old));
}

pub trie_same : {V : Type 0} (old new : Node (Entry V)) → IsTrie old → is_well new ≡ true → below_node new ≡ below_node old → IsTrie new
trie_same old new t w e = record { well = w; placed = ap (list_all is_placed) e ∙ t.placed; ascending = ap ascends e ∙ t.ascending }

-- ---- what a call answers, by the entry that is kept

pub value_put_ok : {V : Type 0} (r : Result (Option (Entry V)) (Entry V)) → is_ok (value_put r) ≡ is_ok r
value_put_ok (Ok old) = refl
value_put_ok (Err entry) = refl

pub old_put : {V : Type 0} (r : Result (Option (Entry V)) (Entry V)) (s : Result (Option V) V) (root : Node (Entry V)) (names path : List (List ℕ)) (now : List (Entry V))
    → s ≡ value_put r → names ≡ path → shown_all root ≡ now → IfOk r (λ old. old ≡ value_at names (below_node root)) → IfOk s (λ old. old ≡ value_at path now)
old_put {V} r s root names path now e n v h = subst (λ (t : Result (Option V) V). IfOk t (λ old. old ≡ value_at path now)) (sym e) (by r h)
  where
    by : (r : Result (Option (Entry V)) (Entry V)) → IfOk r (λ old. old ≡ value_at names (below_node root)) → IfOk (value_put r) (λ old. old ≡ value_at path now)
    by (Ok old) h = shown_found root names old h ∙ ap (λ p. value_at p (shown_all root)) n ∙ ap (value_at path) v
    by (Err entry) h = tt

pub back_put : {V : Type 0} (r : Result (Option (Entry V)) (Entry V)) (s : Result (Option V) V) (entry : Entry V)
    → s ≡ value_put r → IfErr r (λ back. back ≡ entry) → IfErr s (λ back. back ≡ entry.value)
back_put {V} r s entry e h = subst (λ (t : Result (Option V) V). IfErr t (λ back. back ≡ entry.value)) (sym e) (by r h)
  where
    by : (r : Result (Option (Entry V)) (Entry V)) → IfErr r (λ back. back ≡ entry) → IfErr (value_put r) (λ back. back ≡ entry.value)
    by (Ok old) h = tt
    by (Err back) h = ap (λ (t : Entry V). t.value) h

pub trie_put_by : {V : Type 0} (old new : Node (Entry V)) (names path : List (List ℕ)) (entry : Entry V) (b : Bool) → IsTrie old → names ≡ path → entry.path ≡ path → is_well new ≡ true
    → below_node new ≡ cond b (put names entry (below_node old)) (below_node old) → IsTrie new
trie_put_by old new names path entry true t n is w e = trie_put old new names entry t (is ∙ sym n) w e
trie_put_by old new names path entry false t n is w e = trie_same old new t w e

pub list_put_by : {V : Type 0} (old new : Node (Entry V)) (names path : List (List ℕ)) (entry : Entry V) (b c : Bool) (now : List (Entry V)) → c ≡ b → names ≡ path → shown_all old ≡ now
    → below_node new ≡ cond b (put names entry (below_node old)) (below_node old) → shown_all new ≡ cond c (put path entry.value now) now
list_put_by old new names path entry true c now s n v e =
    ap (map shown) e ∙ shown_put names entry (below_node old) ∙ ap (put names entry.value) v ∙ ap (λ p. put p entry.value now) n ∙ sym (ap (λ b. cond b (put path entry.value now) now) s)
list_put_by old new names path entry false c now s n v e = ap (map shown) e ∙ v ∙ sym (ap (λ b. cond b (put path entry.value now) now) s)

pub list_taken : {V : Type 0} (old new : Node (Entry V)) (names path : List (List ℕ)) (now : List (Entry V)) → names ≡ path → shown_all old ≡ now
    → below_node new ≡ without names (below_node old) → shown_all new ≡ without path now
list_taken old new names path now n v e = ap (map shown) e ∙ shown_without names (below_node old) ∙ ap (without names) v ∙ ap (λ p. without p now) n

pub found_as : {V : Type 0} (root : Node (Entry V)) (names path : List (List ℕ)) (now : List (Entry V)) (o : Option (Entry V)) → names ≡ path → shown_all root ≡ now
    → o ≡ value_at names (below_node root) → option_map kept_value o ≡ value_at path now
found_as root names path now o n v e = shown_found root names o e ∙ ap (λ p. value_at p (shown_all root)) n ∙ ap (value_at path) v
