-- The rules of the rows of a book, after a request and after the end of a job: each row's sum is the sum of its tree, and at most one covers a path.
use Rattle.mat_path.proofs.Elements.{contains_cases, contains_first, contains_more}
use Rattle.mat_path.proofs.Overlaps.{overlap_of_prefixes}
use Rattle.std.proofs.Common.{◌≡◌, ℕ, true, false, ◌⊎◌, List, [], ◌∷◌, cond, inl, inr, refl, sym, ap, subst, ◌∙◌, Contains, drop, length, arith}
use Rattle.std.specs.List.{All, filter, list_all}
use Rattle.std.proofs.lemmas.Bool.{and_parts, both_ways}
use Rattle.std.proofs.lemmas.List.Elements.{All-contains, All-filter}
use Rattle.mat_path.specs.Names.{is_prefix, overlap}
use Rattle.mat_path.proofs.PathLemmas.{overlap_comm}
use Rattle.mat_tree.specs.Trees.{has_node}
use Rattle.mat_model.specs.declared.book.Book.{Book}
use Rattle.mat_model.specs.declared.book.Row.{Row}
use Rattle.mat_model.specs.declared.requests.Asked.{Asked}
use Rattle.mat_model.specs.Books.{IsSummed}
use Rattle.mat_model.specs.Declarations.{new_row}
use Rattle.mat_model.specs.Rows.{are_apart, comes_before, covers, is_apart, is_at_path, is_clear_of, put_row, standing_row, used_row}
use Rattle.model_laws.proofs.Apart.{apart_parts}
use Rattle.model_laws.proofs.BooksLists.{all-mapped, all_each}
use Rattle.model_laws.proofs.Serving.{Changes, Endings}
use Rattle.model_laws.proofs.Elements.{contains_all}

-- a row of some that one was put among is that one, or was there
pub put_row_cases : (new : Row) (rows : List Row) (row : Row) → Contains (put_row new rows) row → (new ≡ row) ⊎ Contains rows row
put_row_cases new [] row among = contains_cases new [] row among
put_row_cases new (next ∷ rows) row among =
    elim (comes_before new.path next.path) as
    (λ b. Contains (cond b (new ∷ next ∷ rows) (next ∷ put_row new rows)) row → (new ≡ row) ⊎ Contains (next ∷ rows) row) [
      | true ↦ λ here. contains_cases new (next ∷ rows) row here
      | false ↦ λ here.
          elim (contains_cases next (put_row new rows) row here) [
            | inl same ↦ inr (subst (λ (r : Row). Contains (next ∷ rows) r) same (contains_first next rows))
            | inr more ↦ elim (put_row_cases new rows row more) [ inl same ↦ inl same | inr rest ↦ inr (contains_more next rows row rest) ]
          ]
    ] among

-- a row keeps its sum and its tree where it is used, and where it comes to stand
used_summed : (path : List (List ℕ)) (moment : ℕ) (row : Row) → IsSummed row → IsSummed (used_row path moment row)
used_summed path moment row summed =
    elim (is_at_path path row) as (λ b. IsSummed (cond b (record row { last = moment }) row)) [ true ↦ summed | false ↦ summed ]

made_summed : (path : List (List ℕ)) (row : Row) → IsSummed row → IsSummed (standing_row path row)
made_summed path row summed =
    elim (is_at_path path row) as (λ b. IsSummed (cond b (record row { stands = true }) row)) [ true ↦ summed | false ↦ summed ]

put_summed : (new : Row) (rows : List Row) → IsSummed new → All IsSummed rows → All IsSummed (put_row new rows)
put_summed new rows summed sums =
    all_each IsSummed (put_row new rows)
    (λ row among. elim (put_row_cases new rows row among)
    [ inl same ↦ subst IsSummed same summed | inr more ↦ All-contains IsSummed rows row sums more ])

-- each row's sum stays the sum of its tree
pub asked_summed : (number : ℕ) (request : Asked) (book : Book) → All IsSummed book.rows → Changes (λ (b : Book). All IsSummed b.rows) number request book
asked_summed number request book sums = record {
  same = sums;
  enters = λ command state soft refuse is new may. sums;
  takes = λ command state soft refuse is new may. sums;
  queues = λ command state soft refuse is new may told. sums;
  leaves = λ command is none. sums;
  puts = λ command path tree is.
      put_summed (new_row number book.now path tree) (filter (is_clear_of path) book.rows) refl (All-filter (is_clear_of path) IsSummed book.rows sums);
  uses = λ at command path. all-mapped IsSummed IsSummed (used_row at book.now) (used_summed at book.now) book.rows sums;
  asks = λ row command path live over lies.
      all-mapped IsSummed IsSummed (used_row row.path book.now) (used_summed row.path book.now) book.rows sums;
  removes = λ gone left opposite disturbed. All-filter left IsSummed book.rows sums;
}

-- the end of a job leaves each row's sum the sum of its tree
pub ended_summed : (number : ℕ) (book : Book) → All IsSummed book.rows → Endings (λ (b : Book). All IsSummed b.rows) number book
ended_summed number book sums = record {
  same = sums;
  stands = λ path stamp row found. all-mapped IsSummed IsSummed (standing_row path) (made_summed path) book.rows sums;
  fails = λ some given. sums;
}

-- two rows that are apart don't overlap: those that do are one
pub apart_same : (rows : List Row) (row other : Row) → are_apart rows ≡ true → Contains rows row → Contains rows other → overlap row.path other.path ≡ true →
    row ≡ other
apart_same [] row other apart (k, within, at) among meet = absurd (omega arith)
apart_same (next ∷ rows) row other apart among also meet =
    let parts = and_parts (list_all (is_apart next) rows) (are_apart rows) apart in
    elim (contains_cases next rows row among) [
      | inl same ↦ elim (contains_cases next rows other also) [
        | inl one ↦ sym same ∙ one
        | inr more ↦ absurd (both_ways (overlap row.path other.path)
            (ap (λ (r : Row). overlap r.path other.path) (sym same)
            ∙ (apart_parts next other (contains_all (is_apart next) rows other parts.0 more)).1) meet)
      ]
      | inr rest ↦ elim (contains_cases next rows other also) [
        | inl one ↦ absurd (both_ways (overlap row.path other.path)
            (overlap_comm row.path other.path ∙ ap (λ (r : Row). overlap r.path row.path) (sym one)
            ∙ (apart_parts next row (contains_all (is_apart next) rows row parts.0 rest)).1) meet)
        | inr more ↦ apart_same rows row other parts.1 rest more meet
      ]
    ]

-- of rows that are apart at most one covers a path
pub cover_same : (rows : List Row) (path : List (List ℕ)) (row other : Row) → are_apart rows ≡ true → Contains rows row → Contains rows other →
    covers path row ≡ true → covers path other ≡ true → row ≡ other
cover_same rows path row other apart among also over too =
    apart_same rows row other apart among also
    (overlap_of_prefixes row.path other.path path
    (and_parts (is_prefix row.path path) (has_node row.tree (drop (length row.path) path)) over).0
    (and_parts (is_prefix other.path path) (has_node other.tree (drop (length other.path) path)) too).0)
