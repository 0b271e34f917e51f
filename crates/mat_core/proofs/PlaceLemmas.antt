-- Places that are reserved for kept rows, as one comes and as it goes again.
use Rattle.std.proofs.Common.{◌≡◌, ℕ, true, false, not, List, ◌∷◌, filter, Contains, Ordering, Less, Equal, Greater, refl, sym, ap, subst, ◌∙◌}
use Rattle.std.specs.Ordering.{is_lt, ordering_reverse}
use Rattle.std.proofs.lemmas.List.Elements.{Contains-append_left, Contains-append_right}
use Rattle.std.proofs.lemmas.Bool.{both_ways}
use Rattle.mat_path.proofs.Elements.{contains_filter, contains_first, contains_more}
use Rattle.mat_path.proofs.PathLemmas.{path_cmp_equal, path_cmp_total}
use Rattle.mat_path.proofs.SameNames.{same_names-eq, same_names-refl}
use Rattle.mat_path.specs.Names.{path_cmp, same_names}
use Rattle.model_laws.proofs.BooksLists.{any_contains, contains_any}
use Rattle.kept_book.specs.Marks.{is_other, is_path_before, is_path_behind, is_reserved, put_path}

-- a path among some is among them with one more in its place
put_keeps : (path one : List (List ℕ)) (paths : List (List (List ℕ))) → Contains paths one → Contains (put_path path paths) one
put_keeps path one paths among = by (path_cmp one path) refl
  where
    by : (o : Ordering) → path_cmp one path ≡ o → Contains (put_path path paths) one
    by Less less =
        Contains-append_left (filter (is_path_before path) paths) (path ∷ filter (is_path_behind path) paths) one
        (contains_filter (is_path_before path) paths one (ap is_lt less) among)
    by Equal same =
        Contains-append_right (filter (is_path_before path) paths) (path ∷ filter (is_path_behind path) paths) one
        (subst (λ (p : List (List ℕ)). Contains (path ∷ filter (is_path_behind path) paths) p) (sym (path_cmp_equal one path same))
        (contains_first path (filter (is_path_behind path) paths)))
    by Greater more =
        Contains-append_right (filter (is_path_before path) paths) (path ∷ filter (is_path_behind path) paths) one
        (contains_more path (filter (is_path_behind path) paths) one
        (contains_filter (is_path_behind path) paths one
        (ap is_lt (path_cmp_total.antisymm path one ∙ ap ordering_reverse more)) among))

-- a place that is reserved stays so, and the one that comes is reserved
pub reserved_more : (path at : List (List ℕ)) (paths : List (List (List ℕ))) → is_reserved paths at ≡ true → is_reserved (put_path path paths) at ≡ true
reserved_more path at paths is =
    let (one, among, same) = any_contains (same_names at) paths is in contains_any (same_names at) (put_path path paths) one (put_keeps path one paths among) same

pub reserved_put : (path : List (List ℕ)) (paths : List (List (List ℕ))) → is_reserved (put_path path paths) path ≡ true
reserved_put path paths =
    contains_any (same_names path) (put_path path paths) path
    (Contains-append_right (filter (is_path_before path) paths) (path ∷ filter (is_path_behind path) paths) path
    (contains_first path (filter (is_path_behind path) paths))) (same_names-refl path)

-- another one stays so as one goes
pub reserved_less : (path at : List (List ℕ)) (paths : List (List (List ℕ))) → same_names at path ≡ false → is_reserved paths at ≡ true →
    is_reserved (filter (is_other path) paths) at ≡ true
reserved_less path at paths apart is =
    let (one, among, same) = any_contains (same_names at) paths is in
    let same_path : at ≡ one = same_names-eq at one same in
    contains_any (same_names at) (filter (is_other path) paths) one
    (contains_filter (is_other path) paths one (other one same_path) among) same
  where
    other : (one : List (List ℕ)) → at ≡ one → is_other path one ≡ true
    other one same =
        elim (same_names path one) as (λ b. same_names path one ≡ b → not b ≡ true) [
          | true ↦ λ is_path. absurd (both_ways (same_names at path) apart
              (subst (λ (p : List (List ℕ)). same_names p path ≡ true) (sym same)
              (subst (λ (p : List (List ℕ)). same_names one p ≡ true) (sym (same_names-eq path one is_path)) (same_names-refl one))))
          | false ↦ λ off. refl
        ] refl
