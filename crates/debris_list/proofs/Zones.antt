-- What a change at a place makes of debris in order of path.
use Rattle.std.proofs.Common.{◌≡◌, ◌<◌, ◌≤◌, Option, Some, None, set, find, slice_get, length-append, ℕ, zero, suc, ◌+◌, ◌-◌, nat_lt, Bool, true, false, not, ◌&&◌, ◌||◌, cond, List, [], ◌∷◌, ◌++◌, map, length, take, drop, get_or, inl, inr, ◌⊎◌, refl, ◌∙◌, sym, ap, ap₂, subst, arith}
use Rattle.std.specs.List.{filter, insert, list_all, list_any, position, position_or_len, prefix_len}
use Rattle.std.specs.Option.{option_map, unwrap_or}
use Rattle.std.proofs.lemmas.Bool.Decides.{nat_tests}
use Rattle.std.proofs.lemmas.List.{length-drop, length-take-le}
use Rattle.std.proofs.lemmas.List.Sums.{prefix_len-le-length}
use Rattle.std.proofs.lemmas.Bool.{and_from, and_parts, both_ways, not-true, or_left, or_parts, or_right}
use Rattle.mat_path.specs.Names.{is_prefix, overlap, path_cmp, same_names}
use Rattle.mat_path.proofs.Elements.{filter_all}
use Rattle.mat_path.proofs.Overlaps.{overlap-refl}
use Rattle.mat_path.proofs.PathLemmas.{prefix_not_greater, path_cmp_equal}
use Rattle.mat_path.proofs.SameNames.{same_names-eq, same_names-refl}
use Rattle.std.specs.Ordering.{is_lt}
use Rattle.std.specs.declared.cmp.Ordering.TheVariants.{Less, Equal}
use Rattle.mat_model.specs.Rows.{comes_before}
use Rattle.mat_model.specs.WorkState.{Debris, is_condemned, is_debris_above, is_elsewhere, is_not_below, marked, path_of_debris, put_debris}
use Rattle.debris_list.specs.Pieces.{IsFound, IsSameBefore, are_apart, is_apart, is_at, is_before, is_behind, is_up_to, overlaps_debris}
use Rattle.debris_list.proofs.Order.{before_asym, before_cases, before_irrefl, before_trans, behind_below}

-- ---- one piece and a path

first_before : (x y : Debris) → is_apart x y ≡ true → comes_before x.path y.path ≡ true
first_before x y apart = (and_parts (comes_before x.path y.path) (not (overlap x.path y.path)) apart).0

-- what comes before a path or behind it isn't at it
before_not_at : (path : List (List ℕ)) (d : Debris) → is_before path d ≡ true → is_at path d ≡ false
before_not_at path d before = by (is_at path d) refl
  where
    by : (b : Bool) → is_at path d ≡ b → is_at path d ≡ false
    by false is = is
    by true is = absurd (both_ways (comes_before path path) (before_irrefl path)
        (subst (λ (p : List (List ℕ)). comes_before p path ≡ true) (same_names-eq d.path path is) before))

behind_not_at : (path : List (List ℕ)) (d : Debris) → is_behind path d ≡ true → is_at path d ≡ false
behind_not_at path d behind = by (is_at path d) refl
  where
    by : (b : Bool) → is_at path d ≡ b → is_at path d ≡ false
    by false is = is
    by true is = absurd (both_ways (comes_before path path) (before_irrefl path)
        (subst (λ (p : List (List ℕ)). comes_before path p ≡ true) (same_names-eq d.path path is) behind))

-- what comes before a path isn't at or below it
before_not_below : (path : List (List ℕ)) (d : Debris) → is_before path d ≡ true → is_prefix path d.path ≡ false
before_not_below path d before = by (is_prefix path d.path) refl
  where
    never : (path_cmp path d.path ≡ Less) ⊎ (path_cmp path d.path ≡ Equal) → is_prefix path d.path ≡ false
    never (inl less) = absurd (both_ways (comes_before path d.path) (before_asym d.path path before) (ap is_lt less))
    never (inr same) = absurd (both_ways (comes_before path path) (before_irrefl path)
        (subst (λ (p : List (List ℕ)). comes_before p path ≡ true) (sym (path_cmp_equal path d.path same)) before))

    by : (b : Bool) → is_prefix path d.path ≡ b → is_prefix path d.path ≡ false
    by false is = is
    by true is = never (prefix_not_greater path d.path is)

-- what doesn't come before a path isn't above it
not_before_not_above : (path : List (List ℕ)) (d : Debris) → is_before path d ≡ false → is_debris_above path d ≡ false
not_before_not_above path d not_before = by (is_prefix d.path path) refl
  where
    never : (path_cmp d.path path ≡ Less) ⊎ (path_cmp d.path path ≡ Equal) → is_debris_above path d ≡ false
    never (inl less) = absurd (both_ways (is_before path d) not_before (ap is_lt less))
    never (inr same) =
        let one : same_names d.path path ≡ true = subst (λ (p : List (List ℕ)). same_names d.path p ≡ true) (path_cmp_equal d.path path same) (same_names-refl d.path) in
        ap (λ (b : Bool). is_prefix d.path path && not b) one ∙ nothing (is_prefix d.path path)
      where
        nothing : (b : Bool) → (b && false) ≡ false
        nothing true = refl
        nothing false = refl

    by : (b : Bool) → is_prefix d.path path ≡ b → is_debris_above path d ≡ false
    by false is = ap (λ (b : Bool). b && not (same_names d.path path)) is
    by true is = never (prefix_not_greater d.path path is)

-- ---- the piece at a path

-- nothing behind the piece at a path is at the path
none_at : (path : List (List ℕ)) (x : Debris) (xs : List Debris) → (comes_before path x.path ≡ true) ⊎ (x.path ≡ path) → list_all (is_apart x) xs ≡ true →
    list_any (is_at path) xs ≡ false
none_at path x [] from all = refl
none_at path x (y ∷ xs) from all =
    let parts = and_parts (is_apart x y) (list_all (is_apart x) xs) all in
    let behind : is_behind path y ≡ true = later from (first_before x y parts.0) in
    ap₂ (λ (a b : Bool). a || b) (behind_not_at path y behind) (none_at path x xs from parts.1)
  where
    later : (comes_before path x.path ≡ true) ⊎ (x.path ≡ path) → comes_before x.path y.path ≡ true → comes_before path y.path ≡ true
    later (inl less) next = before_trans path x.path y.path less next
    later (inr same) next = subst (λ (p : List (List ℕ)). comes_before p y.path ≡ true) same next

-- no piece is at a path, where none is at the place behind those that come before it
pub none_there : (path : List (List ℕ)) (xs : List Debris) (k : ℕ) → are_apart xs ≡ true → list_all (is_before path) (take k xs) ≡ true →
    list_any (is_before path) (drop k xs) ≡ false → ((d : Debris) → k < length xs → is_at path (get_or xs k d) ≡ false) → list_any (is_at path) xs ≡ false
none_there path [] k up front rest off = refl
none_there path (x ∷ xs) zero up front rest off =
    let parts = and_parts (list_all (is_apart x) xs) (are_apart xs) up in
    let others = or_parts (is_before path x) (list_any (is_before path) xs) rest in
    let here : is_at path x ≡ false = off x (omega arith) in
    elim (before_cases x.path path others.0) [
      | inl same ↦ absurd (both_ways (is_at path x) here (subst (λ (p : List (List ℕ)). same_names x.path p ≡ true) same (same_names-refl x.path)))
      | inr behind ↦ ap₂ (λ (a b : Bool). a || b) here (none_at path x xs (inl behind) parts.0)
    ]
none_there path (x ∷ xs) (suc k) up front rest off =
    let parts = and_parts (list_all (is_apart x) xs) (are_apart xs) up in
    let fronts = and_parts (is_before path x) (list_all (is_before path) (take k xs)) front in
    ap₂ (λ (a b : Bool). a || b) (before_not_at path x fronts.0)
    (none_there path xs k parts.1 fronts.1 rest (λ d within. off d (omega (arith, within))))

pub some_there : (path : List (List ℕ)) (xs : List Debris) (k : ℕ) → k < length xs → ((d : Debris) → is_at path (get_or xs k d) ≡ true) → list_any (is_at path) xs ≡ true
some_there path [] k within at = absurd (omega arith)
some_there path (x ∷ xs) zero within at = or_left (is_at path x) (list_any (is_at path) xs) (at x)
some_there path (x ∷ xs) (suc k) within at = or_right (is_at path x) (list_any (is_at path) xs) (some_there path xs k (omega arith) at)

all_elsewhere : (path : List (List ℕ)) (xs : List Debris) → list_any (is_at path) xs ≡ false → list_all (is_elsewhere path) xs ≡ true
all_elsewhere path [] none = refl
all_elsewhere path (x ∷ xs) none =
    let others = or_parts (is_at path x) (list_any (is_at path) xs) none in
    and_from (is_elsewhere path x) (list_all (is_elsewhere path) xs) (ap not others.0) (all_elsewhere path xs others.1)

-- what is in front of the piece at a path isn't at it
pub front_off : (path : List (List ℕ)) (x : Debris) (xs : List Debris) (k : ℕ) → list_all (is_apart x) xs ≡ true → k < length xs →
    ((d : Debris) → is_at path (get_or xs k d) ≡ true) → is_at path x ≡ false
front_off path x [] k all within at = absurd (omega arith)
front_off path x (y ∷ xs) zero all within at =
    let order = first_before x y (and_parts (is_apart x y) (list_all (is_apart x) xs) all).0 in
    before_not_at path x (subst (λ (p : List (List ℕ)). comes_before x.path p ≡ true) (same_names-eq y.path path (at y)) order)
front_off path x (y ∷ xs) (suc k) all within at = front_off path x xs k (and_parts (is_apart x y) (list_all (is_apart x) xs) all).1 (omega arith) at

pub taken_out : (path : List (List ℕ)) (xs : List Debris) (k : ℕ) → are_apart xs ≡ true → k < length xs → ((d : Debris) → is_at path (get_or xs k d) ≡ true) →
    take k xs ++ drop (suc k) xs ≡ filter (is_elsewhere path) xs
taken_out path [] k up within at = absurd (omega arith)
taken_out path (x ∷ xs) zero up within at =
    let parts = and_parts (list_all (is_apart x) xs) (are_apart xs) up in
    sym (ap (λ (b : Bool). cond (not b) (x ∷ filter (is_elsewhere path) xs) (filter (is_elsewhere path) xs)) (at x)
    ∙ filter_all (is_elsewhere path) xs (all_elsewhere path xs (none_at path x xs (inr (same_names-eq x.path path (at x))) parts.0)))
taken_out path (x ∷ xs) (suc k) up within at =
    let parts = and_parts (list_all (is_apart x) xs) (are_apart xs) up in
    ap (λ (rest : List Debris). x ∷ rest) (taken_out path xs k parts.1 (omega arith) at)
    ∙ sym (ap (λ (b : Bool). cond (not b) (x ∷ filter (is_elsewhere path) xs) (filter (is_elsewhere path) xs)) (front_off path x xs k parts.0 (omega arith) at))

pub nothing_out : (path : List (List ℕ)) (xs : List Debris) → list_any (is_at path) xs ≡ false → filter (is_elsewhere path) xs ≡ xs
nothing_out path xs none = filter_all (is_elsewhere path) xs (all_elsewhere path xs none)

-- a place has one piece, whatever stands for a place past the end
same_place : (xs : List Debris) (k : ℕ) (d e : Debris) → k < length xs → get_or xs k d ≡ get_or xs k e
same_place [] k d e within = absurd (omega arith)
same_place (x ∷ xs) zero d e within = refl
same_place (x ∷ xs) (suc k) d e within = same_place xs k d e (omega arith)

-- a piece that was read isn't at a path
pub off_at : (path : List (List ℕ)) (xs : List Debris) (k : ℕ) (y : Debris) → y ≡ get_or xs k y → same_names y.path path ≡ false → (d : Debris) →
    k < length xs → is_at path (get_or xs k d) ≡ false
off_at path xs k y is off d within = ap (is_at path) (same_place xs k d y within ∙ sym is) ∙ off

pub taken_out_at : (path : List (List ℕ)) (xs : List Debris) (k : ℕ) → are_apart xs ≡ true → IsFound path xs k →
    take k xs ++ drop (k + 1) xs ≡ filter (is_elsewhere path) xs
taken_out_at path xs k up found =
    let one : suc k ≡ k + 1 = omega arith in
    subst (λ (n : ℕ). take k xs ++ drop n xs ≡ filter (is_elsewhere path) xs) one (taken_out path xs k up found.within found.at)

-- ---- marks

pub nothing_marked : (mark : Bool) (path : List (List ℕ)) (xs : List Debris) → list_any (is_at path) xs ≡ false → map (marked mark path) xs ≡ xs
nothing_marked mark path [] none = refl
nothing_marked mark path (x ∷ xs) none =
    let others = or_parts (is_at path x) (list_any (is_at path) xs) none in
    ap₂ (λ (y : Debris) (ys : List Debris). y ∷ ys) (ap (λ (b : Bool). cond {A = Debris} b (record x { condemned = mark }) x) others.0)
    (nothing_marked mark path xs others.1)

marked_there : (mark : Bool) (path : List (List ℕ)) (xs : List Debris) (k : ℕ) (y : Debris) → are_apart xs ≡ true → k < length xs →
    ((d : Debris) → is_at path (get_or xs k d) ≡ true) → y ≡ get_or xs k y → set xs k (record { path = y.path; condemned = mark }) ≡ map (marked mark path) xs
marked_there mark path [] k y up within at is = absurd (omega arith)
marked_there mark path (x ∷ xs) zero y up within at is =
    let parts = and_parts (list_all (is_apart x) xs) (are_apart xs) up in
    ap₂ (λ (z : Debris) (zs : List Debris). z ∷ zs)
    (ap (λ (z : Debris). record { path = z.path; condemned = mark }) is ∙ sym (ap (λ (b : Bool). cond {A = Debris} b (record x { condemned = mark }) x) (at x)))
    (sym (nothing_marked mark path xs (none_at path x xs (inr (same_names-eq x.path path (at x))) parts.0)))
marked_there mark path (x ∷ xs) (suc k) y up within at is =
    let parts = and_parts (list_all (is_apart x) xs) (are_apart xs) up in
    ap₂ (λ (z : Debris) (zs : List Debris). z ∷ zs)
    (sym (ap (λ (b : Bool). cond {A = Debris} b (record x { condemned = mark }) x) (front_off path x xs k parts.0 (omega arith) at)))
    (marked_there mark path xs k y parts.1 (omega arith) at is)

pub marked_at : (mark : Bool) (path : List (List ℕ)) (xs : List Debris) (k : ℕ) (y : Debris) → are_apart xs ≡ true → IsFound path xs k →
    y ≡ get_or xs k y → set xs k (record { path = y.path; condemned = mark }) ≡ map (marked mark path) xs
marked_at mark path xs k y up found is = marked_there mark path xs k y up found.within found.at is

-- ---- one more

-- what neither comes before a piece nor overlaps it comes behind it
behind_of : (new x : Debris) → is_before new.path x ≡ false → overlaps_debris new.path x ≡ false → comes_before new.path x.path ≡ true
behind_of new x not_before clear =
    elim (before_cases x.path new.path not_before) [
      | inl same ↦ absurd (both_ways (overlap x.path new.path) clear (subst (λ (p : List (List ℕ)). overlap x.path p ≡ true) same (overlap-refl x.path)))
      | inr behind ↦ behind
    ]

pub put_is : (new : Debris) (xs : List Debris) (k : ℕ) → list_all (is_before new.path) (take k xs) ≡ true → list_any (is_before new.path) (drop k xs) ≡ false →
    list_any (overlaps_debris new.path) xs ≡ false → insert xs k new ≡ put_debris new xs
put_is new [] zero front rest clear = refl
put_is new [] (suc k) front rest clear = refl
put_is new (x ∷ xs) zero front rest clear =
    let others = or_parts (overlaps_debris new.path x) (list_any (overlaps_debris new.path) xs) clear in
    let firsts = or_parts (is_before new.path x) (list_any (is_before new.path) xs) rest in
    sym (ap (λ (b : Bool). cond b (new ∷ x ∷ xs) (x ∷ put_debris new xs)) (behind_of new x firsts.0 others.0))
put_is new (x ∷ xs) (suc k) front rest clear =
    let others = or_parts (overlaps_debris new.path x) (list_any (overlaps_debris new.path) xs) clear in
    let fronts = and_parts (is_before new.path x) (list_all (is_before new.path) (take k xs)) front in
    ap (λ (ys : List Debris). x ∷ ys) (put_is new xs k fronts.1 rest others.1)
    ∙ sym (ap (λ (b : Bool). cond b (new ∷ x ∷ xs) (x ∷ put_debris new xs)) (before_asym x.path new.path fronts.0))

-- ---- all at and below a path

-- the pieces that come before a path are no more than those that also may be at or below it
pub in_order : (path : List (List ℕ)) (xs : List Debris) (k h : ℕ) → k ≤ length xs → list_all (is_before path) (take k xs) ≡ true →
    list_any (is_up_to path) (drop h xs) ≡ false → k ≤ h
in_order path xs zero h within front rest = omega arith
in_order path [] (suc k) h within front rest = absurd (omega arith)
in_order path (x ∷ xs) (suc k) zero within front rest =
    let here = (and_parts (is_before path x) (list_all (is_before path) (take k xs)) front).0 in
    let none = (or_parts (is_up_to path x) (list_any (is_up_to path) xs) rest).0 in
    absurd (both_ways (is_before path x) (or_parts (is_before path x) (is_prefix path x.path) none).0 here)
in_order path (x ∷ xs) (suc k) (suc h) within front rest =
    let more = in_order path xs k h (omega arith) (and_parts (is_before path x) (list_all (is_before path) (take k xs)) front).1 rest in omega (arith, more)

all_not_below : (path : List (List ℕ)) (xs : List Debris) → list_any (is_up_to path) xs ≡ false → list_all (is_not_below path) xs ≡ true
all_not_below path [] none = refl
all_not_below path (x ∷ xs) none =
    let others = or_parts (is_up_to path x) (list_any (is_up_to path) xs) none in
    and_from (is_not_below path x) (list_all (is_not_below path) xs) (ap not (or_parts (is_before path x) (is_prefix path x.path) others.0).1)
    (all_not_below path xs others.1)

-- what is at or below a path is cut out
pub cut_is : (path : List (List ℕ)) (xs : List Debris) (k h : ℕ) → k ≤ h → h ≤ length xs → list_all (is_before path) (take k xs) ≡ true →
    list_any (is_before path) (drop k xs) ≡ false → list_all (is_up_to path) (take h xs) ≡ true → list_any (is_up_to path) (drop h xs) ≡ false →
    take k xs ++ drop h xs ≡ filter (is_not_below path) xs
cut_is path [] zero zero order within front rest up past = refl
cut_is path [] zero (suc h) order within front rest up past = refl
cut_is path [] (suc k) zero order within front rest up past = refl
cut_is path [] (suc k) (suc h) order within front rest up past = refl
cut_is path (x ∷ xs) (suc k) zero order within front rest up past = absurd (omega arith)
cut_is path (x ∷ xs) zero zero order within front rest up past = sym (filter_all (is_not_below path) (x ∷ xs) (all_not_below path (x ∷ xs) past))
cut_is path (x ∷ xs) zero (suc h) order within front rest up past =
    let firsts = or_parts (is_before path x) (list_any (is_before path) xs) rest in
    let ups = and_parts (is_up_to path x) (list_all (is_up_to path) (take h xs)) up in
    let below : is_prefix path x.path ≡ true = sym (ap (λ (b : Bool). b || is_prefix path x.path) firsts.0) ∙ ups.0 in
    cut_is path xs zero h (omega arith) (omega arith) refl firsts.1 ups.1 past
    ∙ sym (ap (λ (b : Bool). cond (not b) (x ∷ filter (is_not_below path) xs) (filter (is_not_below path) xs)) below)
cut_is path (x ∷ xs) (suc k) (suc h) order within front rest up past =
    let fronts = and_parts (is_before path x) (list_all (is_before path) (take k xs)) front in
    let ups = and_parts (is_up_to path x) (list_all (is_up_to path) (take h xs)) up in
    ap (λ (ys : List Debris). x ∷ ys) (cut_is path xs k h (omega arith) (omega arith) fronts.1 rest ups.1 past)
    ∙ sym (ap (λ (b : Bool). cond (not b) (x ∷ filter (is_not_below path) xs) (filter (is_not_below path) xs)) (before_not_below path x fronts.0))

pub cut_count : (xs : List Debris) (k h : ℕ) → k ≤ h → h ≤ length xs → length (take k xs ++ drop h xs) + (h - k) ≡ length xs
cut_count xs k h order within =
    let both = length-append (take k xs) (drop h xs) in
    let front = length-take-le k xs (omega (arith, order, within)) in
    let back = length-drop h xs in
    omega (arith, both, front, back, order, within)

-- ---- what is above a path

pub none_above : (path : List (List ℕ)) (xs : List Debris) → list_any (is_before path) xs ≡ false → list_any (is_debris_above path) xs ≡ false
none_above path [] none = refl
none_above path (x ∷ xs) none =
    let others = or_parts (is_before path x) (list_any (is_before path) xs) none in
    ap₂ (λ (a b : Bool). a || b) (not_before_not_above path x others.0) (none_above path xs others.1)

-- what is in front of another piece that comes before a path isn't above the path
not_above : (path : List (List ℕ)) (x y : Debris) → is_apart x y ≡ true → is_before path y ≡ true → is_debris_above path x ≡ false
not_above path x y apart before = by (is_prefix x.path path) refl
  where
    clear : overlap x.path y.path ≡ false
    clear = not-true (overlap x.path y.path) (and_parts (comes_before x.path y.path) (not (overlap x.path y.path)) apart).1

    by : (b : Bool) → is_prefix x.path path ≡ b → is_debris_above path x ≡ false
    by false is = ap (λ (b : Bool). b && not (same_names x.path path)) is
    by true is =
        absurd (both_ways (comes_before path y.path) (before_asym y.path path before)
        (behind_below x.path y.path path (first_before x y apart) (or_parts (is_prefix x.path y.path) (is_prefix y.path x.path) clear).0 is))

before_above : (path : List (List ℕ)) (x : Debris) → is_before path x ≡ true → is_debris_above path x ≡ is_prefix x.path path
before_above path x before = ap (λ (b : Bool). is_prefix x.path path && not b) (before_not_at path x before) ∙ only (is_prefix x.path path)
  where
    only : (b : Bool) → (b && true) ≡ b
    only true = refl
    only false = refl

found_all : (p : Debris → Bool) (xs : List Debris) (k : ℕ) (y : Debris) → list_all p (take (suc k) xs) ≡ true → k < length xs → y ≡ get_or xs k y → p y ≡ true
found_all p [] k y all within is = absurd (omega arith)
found_all p (x ∷ xs) zero y all within is = ap p is ∙ (and_parts (p x) true all).0
found_all p (x ∷ xs) (suc k) y all within is = found_all p xs k y (and_parts (p x) (list_all p (take (suc k) xs)) all).1 (omega arith) is

found_apart : (p : Debris → Bool) (xs : List Debris) (k : ℕ) (y : Debris) → list_all p xs ≡ true → k < length xs → y ≡ get_or xs k y → p y ≡ true
found_apart p [] k y all within is = absurd (omega arith)
found_apart p (x ∷ xs) zero y all within is = ap p is ∙ (and_parts (p x) (list_all p xs) all).0
found_apart p (x ∷ xs) (suc k) y all within is = found_apart p xs k y (and_parts (p x) (list_all p xs) all).1 (omega arith) is

above_at : (path : List (List ℕ)) (xs : List Debris) (k : ℕ) (y : Debris) → are_apart xs ≡ true → k < length xs →
    list_all (is_before path) (take (suc k) xs) ≡ true → list_any (is_before path) (drop (suc k) xs) ≡ false → y ≡ get_or xs k y →
    list_any (is_debris_above path) xs ≡ is_prefix y.path path
above_at path [] k y up within front rest is = absurd (omega arith)
above_at path (x ∷ xs) zero y up within front rest is =
    ap₂ (λ (a b : Bool). a || b) (before_above path x (and_parts (is_before path x) true front).0 ∙ ap (λ (z : Debris). is_prefix z.path path) (sym is))
    (none_above path xs rest)
    ∙ only (is_prefix y.path path)
  where
    only : (b : Bool) → (b || false) ≡ b
    only true = refl
    only false = refl
above_at path (x ∷ xs) (suc k) y up within front rest is =
    let parts = and_parts (list_all (is_apart x) xs) (are_apart xs) up in
    let fronts = and_parts (is_before path x) (list_all (is_before path) (take (suc k) xs)) front in
    ap (λ (b : Bool). b || list_any (is_debris_above path) xs)
    (not_above path x y (found_apart (is_apart x) xs k y parts.0 (omega arith) is) (found_all (is_before path) xs k y fronts.1 (omega arith) is))
    ∙ above_at path xs k y parts.1 (omega arith) fronts.1 rest is

pub last_above : (path : List (List ℕ)) (xs : List Debris) (n : ℕ) (y : Debris) → are_apart xs ≡ true → 0 < n → n ≤ length xs →
    list_all (is_before path) (take n xs) ≡ true → list_any (is_before path) (drop n xs) ≡ false → y ≡ get_or xs (n - 1) y →
    list_any (is_debris_above path) xs ≡ is_prefix y.path path
last_above path xs zero y up some within front rest is = absurd (omega arith)
last_above path xs (suc k) y up some within front rest is =
    let at : suc k - 1 ≡ k = omega arith in
    above_at path xs k y up (omega arith) front rest (subst (λ (n : ℕ). y ≡ get_or xs n y) at is)

-- ---- the first condemned piece

pub position_is : {A : Type 0} (p : A → Bool) (xs : List A) → unwrap_or (position p xs) (length xs) ≡ position_or_len p xs
position_is p xs = at_most (position_or_len p xs) (length xs) (prefix_len-le-length (λ x. not (p x)) xs)
  where
    at_most : (n m : ℕ) → n ≤ m → unwrap_or (cond (nat_lt n m) (Some n) None) m ≡ n
    at_most n m le = grind (arith, nat_tests)

pub place_from : (xs : List Debris) (k : ℕ) → k ≤ length xs → list_any is_condemned (take k xs) ≡ false →
    k + position_or_len is_condemned (drop k xs) ≡ position_or_len is_condemned xs
place_from xs zero within none = omega arith
place_from [] (suc k) within none = absurd (omega arith)
place_from (x ∷ xs) (suc k) within none =
    let others = or_parts (is_condemned x) (list_any is_condemned (take k xs)) none in
    let more = place_from xs k (omega arith) others.1 in
    let here : position_or_len is_condemned (x ∷ xs) ≡ 1 + position_or_len is_condemned xs =
    ap (λ (b : Bool). cond (not b) (1 + prefix_len (λ (d : Debris). not (is_condemned d)) xs) 0) others.0 in
    omega (arith, more, here)

-- nothing is condemned in front of a place in a list that is as an older one was in front of another place, and in front of what was condemned first
none_in_front : (xs : List Debris) (k : ℕ) → k ≤ position_or_len is_condemned xs → list_any is_condemned (take k xs) ≡ false
none_in_front xs zero less = refl
none_in_front [] (suc k) less = refl
none_in_front (x ∷ xs) (suc k) less =
    elim (is_condemned x) as
    (λ b. suc k ≤ cond (not b) (1 + prefix_len (λ (d : Debris). not (is_condemned d)) xs) 0 → (b || list_any is_condemned (take k xs)) ≡ false)
    [ true ↦ λ never. absurd (omega (arith, never)) | false ↦ λ more. none_in_front xs k (omega (arith, more)) ] less

take_front : (xs : List Debris) (m k : ℕ) → m ≤ k → take m (take k xs) ≡ take m xs
take_front xs zero k less = refl
take_front [] (suc m) zero less = refl
take_front [] (suc m) (suc k) less = refl
take_front (x ∷ xs) (suc m) zero less = absurd (omega arith)
take_front (x ∷ xs) (suc m) (suc k) less = ap (λ (ys : List Debris). x ∷ ys) (take_front xs m k (omega arith))

pub none_in_new : (old new : List Debris) (first place m : ℕ) → first ≡ position_or_len is_condemned old → IsSameBefore old new place → m ≤ first → m ≤ place →
    list_any is_condemned (take m new) ≡ false
none_in_new old new first place m is same low near =
    ap (λ (xs : List Debris). list_any is_condemned xs) (sym (take_front new m place near) ∙ ap (take m) same.front ∙ take_front old m place near)
    ∙ none_in_front old m (subst (λ (n : ℕ). m ≤ n) is low)

-- the first condemned piece is at its place
pub first_is : (xs : List Debris) → find is_condemned xs ≡ slice_get xs (position_or_len is_condemned xs)
first_is [] = refl
first_is (x ∷ xs) =
    elim (is_condemned x) as
    (λ b. cond b (Some x) (find is_condemned xs) ≡ slice_get (x ∷ xs) (cond (not b) (1 + prefix_len (λ (d : Debris). not (is_condemned d)) xs) 0)) [
      | true ↦ refl
      | false ↦
          let at = prefix_len (λ (d : Debris). not (is_condemned d)) xs in
          let e : 1 + at ≡ suc at = omega arith in
          rw e (first_is xs)
    ]

pub first_path : (list pieces shown : List Debris) (first : ℕ) (o : Option Debris) → list ≡ pieces → shown ≡ pieces → first ≡ position_or_len is_condemned pieces →
    o ≡ slice_get shown first → option_map path_of_debris o ≡ option_map path_of_debris (find is_condemned list)
first_path list pieces shown first o same seen at is =
    ap (λ (found : Option Debris). option_map path_of_debris found)
    (is ∙ ap₂ (λ (ps : List Debris) (k : ℕ). slice_get ps k) seen at ∙ sym (first_is pieces) ∙ ap (λ (ps : List Debris). find is_condemned ps) (sym same))
