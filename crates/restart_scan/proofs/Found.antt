-- Kept rows in order, and the opening that is made of them.
use Rattle.std.proofs.Common.{◌||◌, append-nil, if◌then◌else◌, ◌≡◌, ◌≤◌, ◌<◌, ◌+◌, ◌==◌, ℕ, Bool, true, false, not, ◌&&◌, List, [], ◌∷◌, ◌++◌, map, filter, length, drop, take, get_or, Option, None, Some, cond, refl, rules, suc, sym, ap, ap₂, subst, ◌∙◌, inl, inr, arith}
use Rattle.std.proofs.lemmas.Bool.{and_parts, and_from, both_ways, false_from_ne_true, not-true, or_from}
use Rattle.std.proofs.lemmas.List.Elements.{All-cons, All-nil}
use Rattle.std.specs.List.{All, AllByRecursion, Contains, list_all}
use Rattle.std.specs.List.Sorted.{IsStrictlySortedBy}
use Rattle.std.specs.Map.{keys_of}
use Rattle.std.specs.Ordering.{is_lt}
use Rattle.std.specs.declared.cmp.Ordering.{Ordering}
use Rattle.std.specs.declared.cmp.Ordering.TheVariants.{Less, Equal}
use Rattle.mat_path.specs.Covering.{covering}
use Rattle.mat_path.specs.Names.{is_prefix, overlap, path_cmp, same_names}
use Rattle.mat_path.proofs.PathLemmas.{before_apart, lt_less, path_cmp_equal, path_cmp_total, path_cmp-refl, prefix_not_greater, prefix_split}
use Rattle.mat_path.proofs.Elements.{contains_cases}
use Rattle.mat_path.proofs.Overlaps.{overlap-sym}
use Rattle.model_laws.proofs.Elements.{contains_all}
use Rattle.mat_path.proofs.SameNames.{same_names-refl}
use Rattle.mat_tree.specs.Trees.{ascends_by, is_after_by}
use Rattle.mat_model.specs.declared.book.Row.{Row}
use Rattle.mat_model.specs.declared.opening.Opening.{Opening}
use Rattle.mat_model.specs.Books.{IsSummed}
use Rattle.mat_model.specs.Kept.{KeptRow}
use Rattle.mat_model.specs.Openings.{IsOpening, are_stamped, found_row, found_rows, is_found, opening_rows, is_row_at, is_row_placed, itself, path_of_row}
use Rattle.mat_model.specs.Rows.{are_apart, comes_before, is_apart, is_standing}
use Rattle.model_laws.specs.KeptRules.{KeptAscend, path_of_kept}
use Rattle.model_laws.proofs.Coverings.{covering_rows-apart}
use Rattle.model_laws.proofs.KeptOrder.{ascends_filtered}
use Rattle.restart_scan.specs.Opened.{AreKept, AreReady, IsMadeOf, IsOf, are_kept_apart, is_kept_before, is_kept_placed, is_old, old_paths}
use Rattle.restart_scan.specs.Rows.{first_overlap, kept_at, kept_in, kept_view, overlap_behind}
use Rattle.restart_scan.specs.declared.kept.Kept.{Kept}
use Rattle.std.proofs.lemmas.List.{map_push, take_more}
use Rattle.restart_scan.specs.Scans.{count_of}
use Rattle.restart_scan.specs.declared.kept.Body.{Body}
use Rattle.region_port.specs.Strays.{AreFound}
use Rattle.mat_tree.specs.Parts.{Part}

-- ---- order

-- the rows of a map are behind a path that its keys are behind
after_keys : (p : List (List ℕ)) (pairs : List (List (List ℕ) × Body)) → AllByRecursion (λ q. path_cmp p q ≡ Less) (keys_of pairs) →
    list_all (is_after_by path_of_kept p) (kept_in pairs) ≡ true
after_keys p [] all = refl
after_keys p (e ∷ es) all =
    and_from (is_after_by path_of_kept p (kept_at e)) (list_all (is_after_by path_of_kept p) (kept_in es)) (ap is_lt all.0) (after_keys p es all.1)

-- the rows of a map ascend
pub map_ascends : (pairs : List (List (List ℕ) × Body)) → IsStrictlySortedBy path_cmp (keys_of pairs) → KeptAscend (kept_in pairs)
unfolding IsStrictlySortedBy
map_ascends [] s = refl
map_ascends (e ∷ es) s =
    and_from (list_all (is_after_by path_of_kept e.0) (kept_in es)) (ascends_by path_of_kept (kept_in es)) (after_keys e.0 es s.0) (map_ascends es s.1)

-- paths that are sorted ascend
after_paths : (p : List (List ℕ)) (ps : List (List (List ℕ))) → AllByRecursion (λ q. path_cmp p q ≡ Less) ps → list_all (is_after_by itself p) ps ≡ true
after_paths p [] all = refl
after_paths p (q ∷ ps) all = and_from (is_after_by itself p q) (list_all (is_after_by itself p) ps) (ap is_lt all.0) (after_paths p ps all.1)

pub paths_ascend : (ps : List (List (List ℕ))) → IsStrictlySortedBy path_cmp ps → ascends_by itself ps ≡ true
unfolding IsStrictlySortedBy
paths_ascend [] s = refl
paths_ascend (p ∷ ps) s =
    and_from (list_all (is_after_by itself p) ps) (ascends_by itself ps) (after_paths p ps s.0) (paths_ascend ps s.1)

-- ---- rows that are apart

equal_less : ◌≡◌ {A = Ordering} Equal Less → ⊥
equal_less e = cc

-- a path isn't before one that is before it
never_both : (p q : List (List ℕ)) → path_cmp p q ≡ Less → path_cmp q p ≡ Less → ⊥
never_both p q less more = equal_less (sym (path_cmp-refl p) ∙ path_cmp_total.trans p q p less more)

-- of three paths in order the first is apart from the last where it is apart from the middle one
outer_apart : (p q x : List (List ℕ)) → comes_before p q ≡ true → overlap p q ≡ false → comes_before q x ≡ true → overlap p x ≡ false
outer_apart p q x first apart second =
    let pq = lt_less (path_cmp p q) first in
    let qx = lt_less (path_cmp q x) second in
    let down : is_prefix p x ≡ false =
    false_from_ne_true (is_prefix p x) (λ h.
    never_both q x qx
    (ap (λ (l : List (List ℕ)). path_cmp l q) (prefix_split p x h) ∙ ap (path_cmp (p ++ drop (length p) x)) (sym (append-nil q))
    ∙ before_apart p q pq apart (drop (length p) x) [])) in
    let up : is_prefix x p ≡ false =
    false_from_ne_true (is_prefix x p) (λ h.
    elim (prefix_not_greater x p h) [
      | inl l ↦ never_both p x (path_cmp_total.trans p q x pq qx) l
      | inr e ↦ equal_less (sym (path_cmp-refl p) ∙ ap (path_cmp p) (sym (path_cmp_equal x p e)) ∙ path_cmp_total.trans p q x pq qx)
    ]) in
    or_from (is_prefix p x) (is_prefix x p) down up

-- a row is apart from those behind one that it is apart from
apart_behind : (row next : KeptRow) (rest : List KeptRow) → comes_before row.path next.path ≡ true → overlap row.path next.path ≡ false →
    list_all (is_after_by path_of_kept row.path) rest ≡ true → list_all (is_after_by path_of_kept next.path) rest ≡ true →
    list_all (is_kept_before row) rest ≡ true
apart_behind row next [] first apart some others = refl
apart_behind row next (one ∷ rest) first apart some others =
    let mine = and_parts (is_after_by path_of_kept row.path one) (list_all (is_after_by path_of_kept row.path) rest) some in
    let its = and_parts (is_after_by path_of_kept next.path one) (list_all (is_after_by path_of_kept next.path) rest) others in
    and_from (is_kept_before row one) (list_all (is_kept_before row) rest)
    (and_from (comes_before row.path one.path) (not (overlap row.path one.path)) mine.0
    (ap not (outer_apart row.path next.path one.path first apart its.0)))
    (apart_behind row next rest first apart mine.1 its.1)

-- what an answer of None says of a choice
no_choice : {A : Type 0} (b : Bool) (x : A) (more : Option A) → (if b then Some x else more) ≡ None → (b ≡ false) × (more ≡ None)
no_choice true x more h = absurd cc
no_choice false x more h = (refl, h)

-- rows in order of which no neighbours overlap are apart
apart_from_row : (row : KeptRow) (rest : List KeptRow) → KeptAscend (row ∷ rest) → overlap_behind row rest ≡ None → are_kept_apart (row ∷ rest) ≡ true
apart_from_row row [] up clear = refl
apart_from_row row (next ∷ rest) up clear =
    let mine = and_parts (list_all (is_after_by path_of_kept row.path) (next ∷ rest)) (ascends_by path_of_kept (next ∷ rest)) up in
    let here = and_parts (is_after_by path_of_kept row.path next) (list_all (is_after_by path_of_kept row.path) rest) mine.0 in
    let its = and_parts (list_all (is_after_by path_of_kept next.path) rest) (ascends_by path_of_kept rest) mine.1 in
    let free = no_choice (overlap row.path next.path) (row.path, next.path) (overlap_behind next rest) clear in
    and_from (list_all (is_kept_before row) (next ∷ rest)) (are_kept_apart (next ∷ rest))
    (and_from (is_kept_before row next) (list_all (is_kept_before row) rest)
    (and_from (comes_before row.path next.path) (not (overlap row.path next.path)) here.0 (ap not free.0))
    (apart_behind row next rest here.0 free.0 here.1 its.0))
    (apart_from_row next rest mine.1 free.1)

pub apart_kept : (kept : List KeptRow) → KeptAscend kept → first_overlap kept ≡ None → are_kept_apart kept ≡ true
apart_kept [] up clear = refl
apart_kept (row ∷ rest) up clear = apart_from_row row rest up clear

-- rows that are apart ascend
before_after : (row : KeptRow) (rest : List KeptRow) → list_all (is_kept_before row) rest ≡ true → list_all (is_after_by path_of_kept row.path) rest ≡ true
before_after row [] all = refl
before_after row (one ∷ rest) all =
    let parts = and_parts (is_kept_before row one) (list_all (is_kept_before row) rest) all in
    and_from (is_after_by path_of_kept row.path one) (list_all (is_after_by path_of_kept row.path) rest)
    (and_parts (comes_before row.path one.path) (not (overlap row.path one.path)) parts.0).0 (before_after row rest parts.1)

pub apart_ascends : (kept : List KeptRow) → are_kept_apart kept ≡ true → KeptAscend kept
apart_ascends [] apart = refl
apart_ascends (row ∷ rest) apart =
    let parts = and_parts (list_all (is_kept_before row) rest) (are_kept_apart rest) apart in
    and_from (list_all (is_after_by path_of_kept row.path) rest) (ascends_by path_of_kept rest) (before_after row rest parts.0) (apart_ascends rest parts.1)

-- ---- rows that stand

apart_each : (row : KeptRow) (stamp at : ℕ) (rest : List KeptRow) →
    list_all (is_apart (found_row stamp row)) (found_rows at rest) ≡ list_all (is_kept_before row) rest
apart_each row stamp at [] = refl
apart_each row stamp at (one ∷ rest) = ap (λ (b : Bool). is_kept_before row one && b) (apart_each row stamp (at + 1) rest)

found_apart : (stamp : ℕ) (kept : List KeptRow) → are_apart (found_rows stamp kept) ≡ are_kept_apart kept
found_apart stamp [] = refl
found_apart stamp (row ∷ rest) = ap₂ (λ (a b : Bool). a && b) (apart_each row stamp (stamp + 1) rest) (found_apart (stamp + 1) rest)

found_stand : (stamp : ℕ) (kept : List KeptRow) → list_all is_standing (found_rows stamp kept) ≡ true
found_stand stamp [] = refl
found_stand stamp (row ∷ rest) = found_stand (stamp + 1) rest

same_number : (n : ℕ) → (n == n) ≡ true
same_number n = search rules

found_stamped : (stamp : ℕ) (kept : List KeptRow) → are_stamped stamp (found_rows stamp kept) ≡ true
found_stamped stamp [] = refl
found_stamped stamp (row ∷ rest) =
    and_from (stamp == stamp) (are_stamped (stamp + 1) (found_rows (stamp + 1) rest)) (same_number stamp) (found_stamped (stamp + 1) rest)

found_summed : (stamp : ℕ) (kept : List KeptRow) → All IsSummed (found_rows stamp kept)
found_summed stamp [] = All-nil IsSummed
found_summed stamp (row ∷ rest) = All-cons IsSummed (found_row stamp row) (found_rows (stamp + 1) rest) refl (found_summed (stamp + 1) rest)

found_placed : (stamp : ℕ) (kept : List KeptRow) → list_all is_row_placed (found_rows stamp kept) ≡ list_all is_kept_placed kept
found_placed stamp [] = refl
found_placed stamp (row ∷ rest) = ap (λ (b : Bool). is_kept_placed row && b) (found_placed (stamp + 1) rest)

pub found_paths : (stamp : ℕ) (kept : List KeptRow) → map path_of_row (found_rows stamp kept) ≡ map path_of_kept kept
found_paths stamp [] = refl
found_paths stamp (row ∷ rest) = ap (λ (l : List (List (List ℕ))). row.path ∷ l) (found_paths (stamp + 1) rest)

-- kept rows that are apart cover a path at most once
pub kept_once : (x : List (List ℕ)) (kept : List KeptRow) → are_kept_apart kept ≡ true → covering x (map path_of_kept kept) ≤ 1
kept_once x kept apart =
    subst (λ (l : List (List (List ℕ))). covering x l ≤ 1) (found_paths 0 kept)
    (covering_rows-apart x (found_rows 0 kept) (found_apart 0 kept ∙ apart))

-- ---- those of the first version

after_named : (p : List (List ℕ)) (kept : List KeptRow) →
    list_all (is_after_by itself p) (map path_of_kept kept) ≡ list_all (is_after_by path_of_kept p) kept
after_named p [] = refl
after_named p (row ∷ rest) = ap (λ (b : Bool). is_after_by path_of_kept p row && b) (after_named p rest)

pub named_ascend : (kept : List KeptRow) → ascends_by itself (map path_of_kept kept) ≡ ascends_by path_of_kept kept
named_ascend [] = refl
named_ascend (row ∷ rest) = ap₂ (λ (a b : Bool). a && b) (after_named row.path rest) (named_ascend rest)

-- paths at which rows stand have them among more
still_named : (row : Row) (rows : List Row) (ps : List (List (List ℕ))) → list_all (is_row_at rows) ps ≡ true → list_all (is_row_at (row ∷ rows)) ps ≡ true
still_named row rows [] all = refl
still_named row rows (p ∷ ps) all =
    let parts = and_parts (is_row_at rows p) (list_all (is_row_at rows) ps) all in
    and_from (is_row_at (row ∷ rows) p) (list_all (is_row_at (row ∷ rows)) ps) (by (same_names row.path p) parts.0) (still_named row rows ps parts.1)
  where
    by : (b : Bool) → is_row_at rows p ≡ true → (b || is_row_at rows p) ≡ true
    by true h = refl
    by false h = h

old_named : (stamp : ℕ) (kept : List KeptRow) → list_all (is_row_at (found_rows stamp kept)) (old_paths kept) ≡ true
old_named stamp [] = refl
old_named stamp (row ∷ rest) = by row.new (old_named (stamp + 1) rest)
  where
    rows : List Row
    rows = found_rows stamp (row ∷ rest)

    more : list_all (is_row_at (found_rows (stamp + 1) rest)) (old_paths rest) ≡ true → list_all (is_row_at rows) (old_paths rest) ≡ true
    more h = still_named (found_row stamp row) (found_rows (stamp + 1) rest) (old_paths rest) h

    here : is_row_at rows row.path ≡ true
    here = ap (λ (b : Bool). b || is_row_at (found_rows (stamp + 1) rest) row.path) (same_names-refl row.path)

    by : (new : Bool) → list_all (is_row_at (found_rows (stamp + 1) rest)) (old_paths rest) ≡ true → list_all (is_row_at rows) (map path_of_kept (cond (not new) (row ∷ filter is_old rest) (filter is_old rest))) ≡ true
    by true h = more h
    by false h = and_from (is_row_at rows row.path) (list_all (is_row_at rows) (old_paths rest)) here (more h)

-- ---- the opening

pub is_opening : (found : List KeptRow) (lost strays : List (List (List ℕ))) (opening : Opening) → AreReady found lost strays →
    IsMadeOf found lost strays opening → IsOpening opening
is_opening found lost strays opening ready made = record {
  apart = subst (λ (rows : List Row). are_apart rows ≡ true) (sym made.rows) (found_apart 0 found ∙ ready.kept.apart);
  standing = subst (λ (rows : List Row). list_all is_standing rows ≡ true) (sym made.rows) (found_stand 0 found);
  stamped = subst (λ (rows : List Row). are_stamped 0 rows ≡ true) (sym made.rows) (found_stamped 0 found);
  sums = subst (λ (rows : List Row). All IsSummed rows) (sym made.rows) (found_summed 0 found);
  placed = subst (λ (rows : List Row). list_all is_row_placed rows ≡ true) (sym made.rows) (found_placed 0 found ∙ ready.kept.placed);
  old = subst (λ (ps : List (List (List ℕ))). ascends_by itself ps ≡ true) (sym made.version1)
      (named_ascend (filter is_old found) ∙ ascends_filtered path_of_kept is_old found (apart_ascends found ready.kept.apart));
  named = subst (λ (rows : List Row). list_all (is_row_at rows) opening.version1 ≡ true) (sym made.rows)
      (subst (λ (ps : List (List (List ℕ))). list_all (is_row_at (found_rows 0 found)) ps ≡ true) (sym made.version1) (old_named 0 found));
  strays = subst (λ (ps : List (List (List ℕ))). ascends_by itself ps ≡ true) (sym made.strays) ready.strays;
  lost = subst (λ (ps : List (List (List ℕ))). ascends_by itself ps ≡ true) (sym made.lost) ready.lost;
  free = λ path. subst (λ (rows : List Row). covering path (opening.strays ++ opening.lost ++ map path_of_row rows) ≤ 1) (sym made.rows)
      (subst (λ (ps : List (List (List ℕ))). covering path (ps ++ opening.lost ++ map path_of_row (found_rows 0 found)) ≤ 1) (sym made.strays)
      (subst (λ (ps : List (List (List ℕ))). covering path (strays ++ ps ++ map path_of_row (found_rows 0 found)) ≤ 1) (sym made.lost)
      (subst (λ (ps : List (List (List ℕ))). covering path (strays ++ lost ++ ps) ≤ 1) (sym (found_paths 0 found)) (ready.free path))));
}

-- ---- the code's lists

-- one row more that stands
found_push : (stamp : ℕ) (kept : List KeptRow) (one : KeptRow) →
    found_rows stamp (kept ++ one ∷ []) ≡ found_rows stamp kept ++ found_row (stamp + length kept) one ∷ []
found_push stamp [] one = ap (λ (n : ℕ). found_row n one ∷ []) (omega arith)
found_push stamp (row ∷ rest) one =
    ap (λ (l : List Row). found_row stamp row ∷ l)
    (found_push (stamp + 1) rest one
    ∙ ap (λ (n : ℕ). found_rows (stamp + 1) rest ++ found_row n one ∷ []) (next (length rest)))
  where
    next : (n : ℕ) → (stamp + 1) + n ≡ stamp + suc n
    next n = omega arith

pub found_length : (stamp : ℕ) (kept : List KeptRow) → length (found_rows stamp kept) ≡ length kept
found_length stamp [] = refl
found_length stamp (row ∷ rest) = ap (λ (n : ℕ). suc n) (found_length (stamp + 1) rest)

from_zero : (n : ℕ) → n ≡ 0 + n
from_zero n = omega arith

pub found_more : (some : List Kept) (one : Kept) (old new : List Row) (stamp : ℕ) (row : Row) → old ≡ found_rows 0 (map kept_view some) →
    stamp ≡ length old → row ≡ found_row stamp (kept_view one) → new ≡ old ++ row ∷ [] → new ≡ found_rows 0 (map kept_view (some ++ one ∷ []))
found_more some one old new stamp row so at is put =
    put ∙ ap₂ (λ (l : List Row) (r : Row). l ++ r ∷ []) so
    (is ∙ ap (λ (n : ℕ). found_row n (kept_view one)) (at ∙ ap length so ∙ found_length 0 (map kept_view some) ∙ from_zero (length (map kept_view some))))
    ∙ sym (ap (found_rows 0) (map_push kept_view some one) ∙ found_push 0 (map kept_view some) (kept_view one))

-- one path more of the first version, or of the second one
old_push : (kept : List KeptRow) (one : KeptRow) →
    old_paths (kept ++ one ∷ []) ≡ old_paths kept ++ map path_of_kept (cond (not one.new) (one ∷ []) [])
old_push [] one = by one.new
  where
    by : (b : Bool) → map path_of_kept (cond (not b) (one ∷ []) []) ≡ map path_of_kept (cond (not b) (one ∷ []) [])
    by b = refl
old_push (row ∷ rest) one = by row.new (old_push rest one)
  where
    behind : List (List (List ℕ))
    behind = map path_of_kept (cond (not one.new) (one ∷ []) [])

    by : (b : Bool) → old_paths (rest ++ one ∷ []) ≡ old_paths rest ++ behind →
        map path_of_kept (cond (not b) (row ∷ filter is_old (rest ++ one ∷ [])) (filter is_old (rest ++ one ∷ [])))
        ≡ map path_of_kept (cond (not b) (row ∷ filter is_old rest) (filter is_old rest)) ++ behind
    by true h = h
    by false h = ap (λ (l : List (List (List ℕ))). row.path ∷ l) h

old_next : (kept : List Kept) (i : ℕ) (one : Kept) → i < length kept → one ≡ get_or kept i one →
    old_paths (map kept_view (take (i + 1) kept))
    ≡ old_paths (map kept_view (take i kept)) ++ map path_of_kept (cond (not one.new) (kept_view one ∷ []) [])
old_next kept i one within at =
    ap (λ (l : List Kept). old_paths (map kept_view l)) (take_more kept i one within ∙ ap (λ (x : Kept). take i kept ++ x ∷ []) (sym at))
    ∙ ap old_paths (map_push kept_view (take i kept) one) ∙ old_push (map kept_view (take i kept)) (kept_view one)

pub old_more : (kept : List Kept) (i : ℕ) (one : Kept) (old new : List (List (List ℕ))) → i < length kept → one ≡ get_or kept i one →
    one.new ≡ false → old ≡ old_paths (map kept_view (take i kept)) → new ≡ old ++ one.path ∷ [] →
    new ≡ old_paths (map kept_view (take (i + 1) kept))
old_more kept i one old new within at first so put =
    put ∙ ap (λ (l : List (List (List ℕ))). l ++ one.path ∷ []) so
    ∙ sym (old_next kept i one within at
    ∙ ap (λ (b : Bool). old_paths (map kept_view (take i kept)) ++ map path_of_kept (cond (not b) (kept_view one ∷ []) [])) first)

pub old_same : (kept : List Kept) (i : ℕ) (one : Kept) (old : List (List (List ℕ))) → i < length kept → one ≡ get_or kept i one →
    one.new ≡ true → old ≡ old_paths (map kept_view (take i kept)) → old ≡ old_paths (map kept_view (take (i + 1) kept))
old_same kept i one old within at second so =
    so ∙ sym (append-nil (old_paths (map kept_view (take i kept))))
    ∙ sym (old_next kept i one within at
    ∙ ap (λ (b : Bool). old_paths (map kept_view (take i kept)) ++ map path_of_kept (cond (not b) (kept_view one ∷ []) [])) second)

-- ---- with the strays of a disk

-- what was found is in order and apart, where nothing is lost
pub is_ready : (kept : List KeptRow) (content : Option Part) (astray : List (List (List ℕ))) → AreKept kept →
    AreFound (map path_of_kept kept) content astray → AreReady kept [] astray
is_ready kept content astray ready found = record {
  kept = ready;
  lost = refl;
  strays = paths_ascend astray found.ordered;
  free = λ path. subst (λ (l : List (List (List ℕ))). covering path (l ++ map path_of_kept kept) ≤ 1) (sym (append-nil astray)) (found.apart path);
}

-- where nothing is lost, all is found
all_found : (kept : List KeptRow) → filter (is_found []) kept ≡ kept
all_found [] = refl
all_found (row ∷ rest) = ap (λ (l : List KeptRow). row ∷ l) (all_found rest)

pub is_of : (kept : List KeptRow) (opening : Opening) → IsMadeOf kept [] opening.strays opening → IsOf kept opening
is_of kept opening made = record {
  rows = made.rows ∙ ap (found_rows 0) (sym (all_found kept)) ∙ ap (λ (l : List (List (List ℕ))). opening_rows l kept) (sym made.lost);
  version1 = made.version1 ∙ ap old_paths (sym (all_found kept)) ∙ ap (λ (l : List (List (List ℕ))). old_paths (filter (is_found l) kept)) (sym made.lost);
}

-- it has as many rows as were kept
pub count_made : (most : ℕ) (kept : List KeptRow) (opening : Opening) → IsMadeOf kept [] opening.strays opening → length kept ≤ most → count_of opening ≤ most
count_made most kept opening made few =
    omega (arith, few, ap length made.rows, found_length 0 kept, ap length made.lost)

-- ---- the first pair that overlaps

-- a row is apart from all behind it, where it is apart from its neighbour
row_apart : (row next : KeptRow) (rest : List KeptRow) → KeptAscend (row ∷ next ∷ rest) → overlap row.path next.path ≡ false →
    list_all (is_kept_before row) (next ∷ rest) ≡ true
row_apart row next rest up apart =
    let mine = and_parts (list_all (is_after_by path_of_kept row.path) (next ∷ rest)) (ascends_by path_of_kept (next ∷ rest)) up in
    let here = and_parts (is_after_by path_of_kept row.path next) (list_all (is_after_by path_of_kept row.path) rest) mine.0 in
    let its = and_parts (list_all (is_after_by path_of_kept next.path) rest) (ascends_by path_of_kept rest) mine.1 in
    and_from (is_kept_before row next) (list_all (is_kept_before row) rest)
    (and_from (comes_before row.path next.path) (not (overlap row.path next.path)) here.0 (ap not apart))
    (apart_behind row next rest here.0 apart here.1 its.0)

-- no row of some is before the first one
none_before : (row : KeptRow) (rest : List KeptRow) (one : KeptRow) → KeptAscend (row ∷ rest) → Contains (row ∷ rest) one →
    comes_before one.path row.path ≡ true → ⊥
none_before row rest one up among before =
    elim (contains_cases row rest one among) [
      | inl same ↦
          never_both row.path row.path (lt_less (path_cmp row.path row.path) (itself_before same)) (lt_less (path_cmp row.path row.path) (itself_before same))
      | inr there ↦
          never_both row.path one.path
          (lt_less (path_cmp row.path one.path)
          (contains_all (is_after_by path_of_kept row.path) rest one
          (and_parts (list_all (is_after_by path_of_kept row.path) rest) (ascends_by path_of_kept rest) up).0 there))
          (lt_less (path_cmp one.path row.path) before)
    ]
  where
    itself_before : row ≡ one → comes_before row.path row.path ≡ true
    itself_before same = subst (λ (r : KeptRow). comes_before r.path row.path ≡ true) (sym same) before

pair_from : (row : KeptRow) (rest : List KeptRow) (pair : List (List ℕ) × List (List ℕ)) (one other : KeptRow) → KeptAscend (row ∷ rest) →
    overlap_behind row rest ≡ Some pair → Contains (row ∷ rest) one → Contains (row ∷ rest) other → overlap one.path other.path ≡ true →
    comes_before one.path pair.0 ≡ true → one ≡ other
pair_from row [] pair one other up h a b meets before = absurd cc
pair_from row (next ∷ rest) pair one other up h a b meets before =
    by (overlap row.path next.path) refl h
    (λ e there here. pair_from next rest pair one other
    (and_parts (list_all (is_after_by path_of_kept row.path) (next ∷ rest)) (ascends_by path_of_kept (next ∷ rest)) up).1 e there here meets before)
  where
    pair_is : (p : List (List ℕ) × List (List ℕ)) → Some p ≡ Some pair → p ≡ pair
    pair_is p e = ap pair_or e
      where
        pair_or : Option (List (List ℕ) × List (List ℕ)) → List (List ℕ) × List (List ℕ)
        pair_or None = p
        pair_or (Some q) = q

    clear : overlap row.path next.path ≡ false → (z : KeptRow) → Contains (next ∷ rest) z → overlap row.path z.path ≡ false
    clear apart z there =
        not-true (overlap row.path z.path)
        (and_parts (comes_before row.path z.path) (not (overlap row.path z.path))
        (contains_all (is_kept_before row) (next ∷ rest) z (row_apart row next rest up apart) there)).1

    by : (t : Bool) → overlap row.path next.path ≡ t → (if t then Some (row.path, next.path) else overlap_behind next rest) ≡ Some pair →
        (overlap_behind next rest ≡ Some pair → Contains (next ∷ rest) one → Contains (next ∷ rest) other → one ≡ other) → one ≡ other
    by true touch e more =
        absurd (none_before row (next ∷ rest) one up a
        (subst (λ (p : List (List ℕ) × List (List ℕ)). comes_before one.path p.0 ≡ true) (sym (pair_is (row.path, next.path) e)) before))
    by false apart e more =
        elim (contains_cases row (next ∷ rest) one a) [
          | inl same ↦
              elim (contains_cases row (next ∷ rest) other b) [
                | inl too ↦ sym same ∙ too
                | inr there ↦
                    absurd (both_ways (overlap row.path other.path) (clear apart other there)
                    (subst (λ (r : KeptRow). overlap r.path other.path ≡ true) (sym same) meets))
              ]
          | inr there ↦
              elim (contains_cases row (next ∷ rest) other b) [
                | inl too ↦
                    absurd (both_ways (overlap row.path one.path) (clear apart one there)
                    (overlap-sym one.path row.path true (subst (λ (r : KeptRow). overlap one.path r.path ≡ true) (sym too) meets)))
                | inr here ↦ more e there here
              ]
        ]

-- no row before the first of the pair overlaps another one
pub first_pair : (kept : List KeptRow) (pair : List (List ℕ) × List (List ℕ)) (one other : KeptRow) → KeptAscend kept → first_overlap kept ≡ Some pair →
    Contains kept one → Contains kept other → overlap one.path other.path ≡ true → comes_before one.path pair.0 ≡ true → one ≡ other
first_pair [] pair one other up h a b meets before = absurd cc
first_pair (row ∷ rest) pair one other up h a b meets before = pair_from row rest pair one other up h a b meets before
