-- How many marks some spots stand for, where one of them changes.
use Rattle.std.proofs.Common.{◌≡◌, ◌+◌, ◌≤◌, ◌<◌, ℕ, true, List, [], ◌∷◌, ◌++◌, length, refl, ◌∙◌, ap, arith}
use Rattle.std.proofs.lemmas.List.{length-append}
use Rattle.std.specs.List.{filter}
use Rattle.std.specs.declared.option.Option.{Option}
use Rattle.std.specs.declared.option.Option.TheVariants.{Some, None}
use Rattle.path_trie.specs.declared.entry.Entry.{Entry}
use Rattle.path_trie.specs.Entries.{ascends, is_before, is_behind, put, value_at, without}
use Rattle.kept_book.specs.declared.spot.Spot.{Spot}
use Rattle.kept_book.specs.declared.spot.Spot.TheVariants as spot
use Rattle.kept_book.specs.Spots.{mark_count, mark_in, marks_of, told_at}
use Rattle.kept_book.proofs.SpotLemmas.{front_told, parts_told, without_told}

count_told : (p : List (List ℕ)) (o : Option Spot) → length (told_at mark_in p o) ≡ mark_count o
count_told p None = refl
count_told p (Some (spot.Kept l n)) = refl
count_told p (Some spot.Reserved) = refl
count_told p (Some (spot.Both l n)) = refl

length_three : {X : Type 0} (xs ys zs : List X) → length (xs ++ (ys ++ zs)) ≡ length xs + (length ys + length zs)
length_three xs ys zs = length-append xs (ys ++ zs) ∙ ap (λ n. length xs + n) (length-append ys zs)

count_parts : (p : List (List ℕ)) (xs : List (Entry Spot)) → ascends xs ≡ true
    → length (marks_of xs) ≡ length (marks_of (filter (is_before p) xs)) + (mark_count (value_at p xs) + length (marks_of (filter (is_behind p) xs)))
count_parts p xs h =
    ap length (parts_told mark_in p xs h)
    ∙ length_three (marks_of (filter (is_before p) xs)) (told_at mark_in p (value_at p xs)) (marks_of (filter (is_behind p) xs))
    ∙ ap (λ n. length (marks_of (filter (is_before p) xs)) + (n + length (marks_of (filter (is_behind p) xs)))) (count_told p (value_at p xs))

-- the marks with another spot at a path
count_put : (p : List (List ℕ)) (v : Spot) (xs : List (Entry Spot)) → ascends xs ≡ true
    → length (marks_of (put p v xs)) + mark_count (value_at p xs) ≡ length (marks_of xs) + mark_count (Some v)
count_put p v xs h =
    let all = count_parts p xs h in
    let new : length (marks_of (put p v xs)) ≡ length (marks_of (filter (is_before p) xs)) + (mark_count (Some v) + length (marks_of (filter (is_behind p) xs))) =
    ap length (front_told mark_in p v xs)
    ∙ length_three (marks_of (filter (is_before p) xs)) (mark_in p v) (marks_of (filter (is_behind p) xs))
    ∙ ap (λ n. length (marks_of (filter (is_before p) xs)) + (n + length (marks_of (filter (is_behind p) xs)))) (count_told p (Some v)) in
    omega (arith, all, new)

-- the marks without the spot at a path
count_without : (p : List (List ℕ)) (xs : List (Entry Spot)) → ascends xs ≡ true
    → length (marks_of (without p xs)) + mark_count (value_at p xs) ≡ length (marks_of xs)
count_without p xs h =
    let all = count_parts p xs h in
    let left = ap length (without_told mark_in p xs h) ∙ length-append (marks_of (filter (is_before p) xs)) (marks_of (filter (is_behind p) xs)) in
    omega (arith, all, left)

-- there are no more marks than spots
count_most : (xs : List (Entry Spot)) → length (marks_of xs) ≤ length xs
count_most [] = omega arith
count_most (x ∷ xs) = let more = count_most xs in let front = length-append (mark_in x.path x.value) (marks_of xs) in let one = by x.path x.value in omega (arith, more, front, one)
  where
    by : (p : List (List ℕ)) (v : Spot) → length (mark_in p v) ≤ 1
    by p (spot.Kept l n) = omega arith
    by p spot.Reserved = omega arith
    by p (spot.Both l n) = omega arith

-- ---- what a change of the count asks for, and what it leaves

pub old_counted : (p : List (List ℕ)) (xs : List (Entry Spot)) (marks less : ℕ) → ascends xs ≡ true → marks ≡ length (marks_of xs) → less ≡ mark_count (value_at p xs)
    → less ≤ marks
old_counted p xs marks less h is e = let all = count_without p xs h in omega (arith, all, is, e)

pub put_counted : (p : List (List ℕ)) (v : Spot) (xs news : List (Entry Spot)) (marks less more now : ℕ) → ascends xs ≡ true → marks ≡ length (marks_of xs)
    → news ≡ put p v xs → less ≡ mark_count (value_at p xs) → more ≡ mark_count (Some v) → now + less ≡ marks + more → now ≡ length (marks_of news)
put_counted p v xs news marks less more now h is new e f sum =
    let all = count_put p v xs h in let same = ap (λ t. length (marks_of t)) new in omega (arith, all, same, is, e, f, sum)

pub put_fits : (p : List (List ℕ)) (v : Spot) (xs news : List (Entry Spot)) (marks less more most room : ℕ) → ascends xs ≡ true → marks ≡ length (marks_of xs)
    → news ≡ put p v xs → less ≡ mark_count (value_at p xs) → more ≡ mark_count (Some v) → most ≡ length news → most < room → marks + more < room + less
put_fits p v xs news marks less more most room h is new e f m r =
    let all = count_put p v xs h in let same = ap (λ t. length (marks_of t)) new in let few = count_most news in omega (arith, all, same, few, is, e, f, m, r)

pub taken_counted : (p : List (List ℕ)) (xs news : List (Entry Spot)) (marks less now : ℕ) → ascends xs ≡ true → marks ≡ length (marks_of xs)
    → news ≡ without p xs → less ≡ mark_count (value_at p xs) → now + less ≡ marks + 0 → now ≡ length (marks_of news)
taken_counted p xs news marks less now h is new e sum =
    let all = count_without p xs h in let same = ap (λ t. length (marks_of t)) new in omega (arith, all, same, is, e, sum)
