-- The mark of a stored row that is put among others in order of path.
use Rattle.std.proofs.Common.{◌≡◌, ℕ, Bool, true, false, cond, List, [], ◌∷◌, ◌++◌, map, Ordering, Less, Equal, Greater, refl, ◌∙◌, sym, ap}
use Rattle.std.proofs.lemmas.Bool.{and_from}
use Rattle.std.specs.Cmp.{first_so, second_so}
use Rattle.std.specs.List.{filter, list_all}
use Rattle.std.specs.Ordering.{is_lt, ordering_reverse}
use Rattle.mat_path.specs.Names.{path_cmp, same_names}
use Rattle.mat_path.proofs.PathLemmas.{lt_less, path_cmp_total, path_cmp_equal, path_cmp-refl}
use Rattle.mat_path.proofs.SameNames.{same_names-refl}
use Rattle.mat_tree.specs.Trees.{ascends_by, is_after_by}
use Rattle.mat_model.specs.Kept.{KeptRow, put_kept}
use Rattle.mat_model.specs.Rows.{comes_before}
use Rattle.model_laws.specs.KeptRules.{path_of_kept}
use Rattle.path_trie.proofs.Onwards.{not_both}
use Rattle.path_trie.proofs.Parted.{filter_kept, filter_left}
use Rattle.path_trie.proofs.Values.{apart, apart_behind}
use Rattle.kept_book.specs.declared.mark.Mark.{Mark}
use Rattle.kept_book.specs.Marks.{is_mark_before, is_mark_behind, mark_of, put_mark}

-- marks of rows behind one are behind what isn't behind that one
marks_behind : (p q : List (List ℕ)) → ((x : KeptRow) → is_after_by path_of_kept q x ≡ true → is_lt (path_cmp p x.path) ≡ true) → (rows : List KeptRow)
    → list_all (is_after_by path_of_kept q) rows ≡ true → list_all (is_mark_behind p) (map mark_of rows) ≡ true
marks_behind p q f [] h = refl
marks_behind p q f (x ∷ rows) h =
    and_from (is_lt (path_cmp p x.path)) (list_all (is_mark_behind p) (map mark_of rows)) (f x (first_so (is_after_by path_of_kept q x) (list_all (is_after_by path_of_kept q) rows) h))
    (marks_behind p q f rows (second_so (is_after_by path_of_kept q x) (list_all (is_after_by path_of_kept q) rows) h))

pub put_in_step : (one : KeptRow) (kept : List KeptRow) → ascends_by path_of_kept kept ≡ true
    → map mark_of (put_kept one kept) ≡ put_mark (mark_of one) (map mark_of kept)
put_in_step one [] h = refl
put_in_step one (row ∷ rows) h =
    by (path_cmp row.path one.path) refl (first_so (list_all (is_after_by path_of_kept row.path) rows) (ascends_by path_of_kept rows) h)
    (put_in_step one rows (second_so (list_all (is_after_by path_of_kept row.path) rows) (ascends_by path_of_kept rows) h))
  where
    before : List Mark
    before = filter (is_mark_before one.path) (map mark_of rows)

    behind : List Mark
    behind = filter (is_mark_behind one.path) (map mark_of rows)

    rows_form : Bool → Bool → List Mark
    rows_form same first = map mark_of (cond same (one ∷ rows) (cond first (one ∷ row ∷ rows) (row ∷ put_kept one rows)))

    marks_form : Bool → Bool → List Mark
    marks_form low high = cond low (mark_of row ∷ before) before ++ (mark_of one ∷ cond high (mark_of row ∷ behind) behind)

    joined : (a b c : Bool) → same_names one.path row.path ≡ a → comes_before one.path row.path ≡ b → is_lt (path_cmp row.path one.path) ≡ c → rows_form a b ≡ marks_form c b
        → rows_form (same_names one.path row.path) (comes_before one.path row.path) ≡ marks_form (is_lt (path_cmp row.path one.path)) (is_lt (path_cmp one.path row.path))
    joined a b c e f g same =
        ap (λ t. rows_form t (comes_before one.path row.path)) e ∙ ap (rows_form a) f ∙ same ∙ sym (ap (λ t. marks_form t b) g)
        ∙ sym (ap (marks_form (is_lt (path_cmp row.path one.path))) f)

    -- where all others are behind it
    rest : list_all (is_mark_behind one.path) (map mark_of rows) ≡ true → (high : Bool) → mark_of one ∷ cond high (mark_of row ∷ map mark_of rows) (map mark_of rows) ≡ marks_form false high
    rest all high =
        sym (ap (λ t. t ++ (mark_of one ∷ cond high (mark_of row ∷ behind) behind))
        (filter_left (is_mark_before one.path) (is_mark_behind one.path) (λ m k. not_both one.path m.path k) (map mark_of rows) all)
        ∙ ap (λ t. mark_of one ∷ cond high (mark_of row ∷ t) t) (filter_kept (is_mark_behind one.path) (map mark_of rows) all))

    by : (o : Ordering) → path_cmp row.path one.path ≡ o → list_all (is_after_by path_of_kept row.path) rows ≡ true
        → map mark_of (put_kept one rows) ≡ put_mark (mark_of one) (map mark_of rows)
        → map mark_of (put_kept one (row ∷ rows)) ≡ put_mark (mark_of one) (map mark_of (row ∷ rows))
    by Less o all more =
        joined false false true (apart_behind one.path row.path (ap is_lt o)) (not_both row.path one.path (ap is_lt o)) (ap is_lt o) (ap (λ t. mark_of row ∷ t) more)
    by Equal o all more =
        let same : row.path ≡ one.path = path_cmp_equal row.path one.path o in
        joined true false false (ap (same_names one.path) same ∙ same_names-refl one.path) (ap (λ q. is_lt (path_cmp one.path q)) same ∙ ap is_lt (path_cmp-refl one.path)) (ap is_lt o)
        (rest (marks_behind one.path row.path (λ x k. ap (λ q. is_lt (path_cmp q x.path)) (sym same) ∙ k) rows all) false)
    by Greater o all more =
        let less : path_cmp one.path row.path ≡ Less = path_cmp_total.antisymm one.path row.path ∙ ap ordering_reverse o in
        joined false true false (apart one.path row.path Less less refl) (ap is_lt less) (ap is_lt o)
        (rest (marks_behind one.path row.path (λ x k. ap is_lt (path_cmp_total.trans one.path row.path x.path less (lt_less (path_cmp row.path x.path) k))) rows all) true)
