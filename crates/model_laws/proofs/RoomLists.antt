-- Counts of lists that are filtered, mapped or stored: how many kept rows are alone, how many tickets are open, and sums.
use Rattle.mat_path.proofs.Elements.{contains_first, contains_more}
use Rattle.mat_path.proofs.SameNames.{same_names-eq, same_names-refl}
use Rattle.std.proofs.Common.{◌≡◌, ℕ, ◌+◌, ◌≤◌, Bool, true, false, not, ◌||◌, List, [], ◌∷◌, cond, refl, sym, ap, ap₂, subst, ◌∙◌, map, Contains, count_by, length, arith}
use Rattle.std.specs.List.{filter, list_any, sum_by}
use Rattle.std.proofs.lemmas.List.Sums.{sum_by-cons}
use Rattle.mat_path.specs.Names.{same_names}
use Rattle.mat_model.specs.declared.book.Row.{Row}
use Rattle.mat_model.specs.Kept.{KeptRow, kept_row, put_kept, store_rows}
use Rattle.mat_model.specs.Room.{is_alone}
use Rattle.mat_model.specs.Rows.{comes_before, is_at_path}
use Rattle.model_laws.proofs.BooksLists.{contains_any}
use Rattle.model_laws.proofs.ListTests.{filter_le}

-- no more pass a test in a list that is filtered
pub fewer_filtered : {A : Type 0} (p q : A → Bool) (xs : List A) → length (filter p (filter q xs)) ≤ length (filter p xs)
fewer_filtered p q [] = omega arith
fewer_filtered {A = A} p q (x ∷ xs) =
    let more : length (filter p (filter q xs)) ≤ length (filter p xs) = fewer_filtered p q xs in
    elim (q x) as (λ b. length (filter p (cond b (x ∷ filter q xs) (filter q xs))) ≤ length (filter p (x ∷ xs))) [
      | true ↦
          elim (p x) as
          (λ c. length (cond c (x ∷ filter p (filter q xs)) (filter p (filter q xs))) ≤ length (cond c (x ∷ filter p xs) (filter p xs)))
          [ true ↦ omega (arith, more) | false ↦ more ]
      | false ↦
          elim (p x) as (λ c. length (filter p (filter q xs)) ≤ length (cond c (x ∷ filter p xs) (filter p xs)))
          [ true ↦ omega (arith, more) | false ↦ more ]
    ]

-- a list is shorter once what passes a test is gone, where something does
pub one_less : {A : Type 0} (p q : A → Bool) → ((x : A) → q x ≡ not (p x)) → (xs : List A) → list_any p xs ≡ true →
    length (filter q xs) + 1 ≤ length xs
one_less p q opposite [] some = absurd cc
one_less {A = A} p q opposite (x ∷ xs) some =
    elim (p x) as (λ b. p x ≡ b → (b || list_any p xs) ≡ true → length (filter q (x ∷ xs)) + 1 ≤ length (x ∷ xs)) [
      | true ↦ λ here is.
          let off : q x ≡ false = opposite x ∙ ap not here in
          let less : length (filter q xs) ≤ length xs = filter_le q xs in
          rw off (omega (arith, less))
      | false ↦ λ off is.
          let stays : q x ≡ true = opposite x ∙ ap not off in
          let less : length (filter q xs) + 1 ≤ length xs = one_less p q opposite xs is in
          rw stays (omega (arith, less))
    ] refl some

-- a sum stays where each term does
pub sum_alike : {A : Type 0} (f : A → ℕ) (g : A → A) → ((x : A) → f (g x) ≡ f x) → (xs : List A) → sum_by f (map g xs) ≡ sum_by f xs
sum_alike f g alike [] = refl
sum_alike {A = A} f g alike (x ∷ xs) =
    sum_by-cons f (g x) (map g xs) ∙ ap₂ (λ (m n : ℕ). m + n) (alike x) (sum_alike f g alike xs) ∙ sym (sum_by-cons f x xs)

-- no more pass a test where only such do that did
pub count_fewer : {A : Type 0} (p : A → Bool) (g : A → A) → ((x : A) → p (g x) ≡ true → p x ≡ true) → (xs : List A) →
    count_by p (map g xs) ≤ count_by p xs
count_fewer p g only [] = omega arith
count_fewer {A = A} p g only (x ∷ xs) =
    let more : count_by p (map g xs) ≤ count_by p xs = count_fewer p g only xs in
    let left : count_by p (map g (x ∷ xs)) ≡ cond (p (g x)) 1 0 + count_by p (map g xs) =
    sum_by-cons (λ (y : A). cond (p y) 1 0) (g x) (map g xs) in
    let right : count_by p (x ∷ xs) ≡ cond (p x) 1 0 + count_by p xs = sum_by-cons (λ (y : A). cond (p y) 1 0) x xs in
    let first : cond (p (g x)) 1 0 ≤ cond (p x) 1 0 = at_most (p (g x)) (p x) (only x) in
    omega (arith, more, left, right, first)
  where
    at_most : (a b : Bool) → (a ≡ true → b ≡ true) → cond a 1 0 ≤ cond b 1 0
    at_most true b implies = rw (implies refl) (omega arith)
    at_most false b implies = omega arith

-- a kept row that is put in its place at a row's path leaves as many alone
alone_put : (rows : List Row) (new : KeptRow) (kept : List KeptRow) → is_alone rows new ≡ false →
    filter (is_alone rows) (put_kept new kept) ≡ filter (is_alone rows) kept
alone_put rows new [] off = rw off refl
alone_put rows new (row ∷ kept) off =
    elim (same_names new.path row.path) as
    (λ b. same_names new.path row.path ≡ b →
    filter (is_alone rows) (cond b (new ∷ kept) (cond (comes_before new.path row.path) (new ∷ row ∷ kept) (row ∷ put_kept new kept)))
    ≡ filter (is_alone rows) (row ∷ kept)) [
      | true ↦ λ same.
          let too : is_alone rows row ≡ false =
          subst (λ (p : List (List ℕ)). not (list_any (is_at_path p) rows) ≡ false) (same_names-eq new.path row.path same) off in
          rw (off, too) refl
      | false ↦ λ other.
          elim (comes_before new.path row.path) as
          (λ b. filter (is_alone rows) (cond b (new ∷ row ∷ kept) (row ∷ put_kept new kept)) ≡ filter (is_alone rows) (row ∷ kept)) [
            | true ↦ rw off refl
            | false ↦
                elim (is_alone rows row) as
                (λ c. cond c (row ∷ filter (is_alone rows) (put_kept new kept)) (filter (is_alone rows) (put_kept new kept))
                ≡ cond c (row ∷ filter (is_alone rows) kept) (filter (is_alone rows) kept)) [
                  | true ↦ ap (λ (ks : List KeptRow). row ∷ ks) (alone_put rows new kept off)
                  | false ↦ alone_put rows new kept off
                ]
          ]
    ] refl

-- storing rows of a book leaves as many kept rows alone
pub alone_stored : (rows some : List Row) (kept : List KeptRow) → ((row : Row) → Contains some row → Contains rows row) →
    filter (is_alone rows) (store_rows some kept) ≡ filter (is_alone rows) kept
alone_stored rows [] kept within = refl
alone_stored rows (row ∷ some) kept within =
    alone_stored rows some (put_kept (kept_row row) kept) (λ other among. within other (contains_more row some other among))
    ∙ alone_put rows (kept_row row) kept
    (ap not (contains_any (is_at_path row.path) rows row (within row (contains_first row some)) (same_names-refl row.path)))

-- a test that is the same of each element once that is mapped is the same of some
pub any_mapped : {A : Type 0} (p : A → Bool) (f : A → A) → ((x : A) → p (f x) ≡ p x) → (xs : List A) → list_any p (map f xs) ≡ list_any p xs
any_mapped p f alike [] = refl
any_mapped {A = A} p f alike (x ∷ xs) = ap₂ (λ (a b : Bool). a || b) (alike x) (any_mapped p f alike xs)
