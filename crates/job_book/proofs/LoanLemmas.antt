-- The loans of jobs, where a job begins and where it ends.
use Rattle.std.proofs.Common.{◌≡◌, ℕ, Bool, true, false, ◌||◌, List, [], ◌∷◌, ◌++◌, map, take, drop, get_or, ◌+◌, suc, refl, ◌∙◌, sym, ap, arith}
use Rattle.std.proofs.lemmas.Bool.{or_from}
use Rattle.std.proofs.lemmas.List.{append_assoc, append-nil}
use Rattle.std.proofs.lemmas.List.Concat.{flat_map-append}
use Rattle.std.proofs.lemmas.List.Folds.{list_any-append}
use Rattle.std.specs.List.{list_all, list_any}
use Rattle.std.specs.Option.{option_map, option_map_or}
use Rattle.std.specs.declared.option.Option.{Option}
use Rattle.std.specs.declared.option.Option.TheVariants.{Some, None}
use Rattle.mat_path.specs.Names.{overlap}
use Rattle.mat_path.proofs.PathLemmas.{overlap_comm}
use Rattle.mat_model.specs.Books.{are_ascending}
use Rattle.mat_model.specs.WorkState.{is_lent, lends_at}
use Rattle.path_trie.specs.declared.entry.Entry.{Entry}
use Rattle.path_trie.specs.Entries.{overlaps, value_at, without}
use Rattle.path_trie.proofs.Lists.{split_at}
use Rattle.job_book.specs.declared.running.LentPart.{LentPart}
use Rattle.job_book.specs.declared.running.Running.{Running}
use Rattle.job_book.specs.Jobs.{jobs_of, lent_of}
use Rattle.job_book.specs.Numbers.{is_earlier, is_source_lent, is_source_over, number_of, task_path, IsPlaceOf}
use Rattle.job_book.specs.Loans.{all_loans, are_clear, loan_at, loans_of, source_at, source_loan, without_loans, without_source, IsIndex, IsWhole}
use Rattle.job_book.proofs.EntryLemmas.{apart_other, around_clear, joined, more_clear, more_value, none_at, one_gone, over_same}
use Rattle.job_book.proofs.NumberLemmas.{left_ascend, left_is, more_ascend}

-- ---- what is lent

source_over : (q : List (List ℕ)) (n : ℕ) (lent : Option LentPart) → option_map_or (lends_at q) (option_map lent_of lent) false ≡ list_any (overlaps q) (source_loan n lent)
source_over q n None = refl
source_over q n (Some part) = overlap_comm part.path q ∙ sym (or_no (overlap q part.path))
  where
    or_no : (b : Bool) → (b || false) ≡ b
    or_no true = refl
    or_no false = refl

pub lent_is : (q : List (List ℕ)) (rs : List Running) → is_lent q (jobs_of rs) ≡ list_any (overlaps q) (all_loans rs)
lent_is q [] = refl
lent_is q (r ∷ rs) =
    ap (λ b. (b || option_map_or (lends_at q) (option_map lent_of r.lent) false) || is_lent q (jobs_of rs)) (overlap_comm (task_path r) q)
    ∙ ap (λ b. (overlap q (task_path r) || b) || is_lent q (jobs_of rs)) (source_over q r.card.job r.lent)
    ∙ ap (λ b. list_any (overlaps q) (loans_of r) || b) (lent_is q rs)
    ∙ sym (list_any-append (overlaps q) (loans_of r) (all_loans rs))

-- the same, from the index
pub lent_by_index : (q : List (List ℕ)) (rs : List Running) (entries : List (Entry ℕ)) → IsWhole rs entries → list_any (overlaps q) entries ≡ is_lent q (jobs_of rs)
lent_by_index q rs entries whole = over_same q entries (all_loans rs) whole.indexed ∙ sym (lent_is q rs)

-- ---- a job begins

none_over : (q : List (List ℕ)) (rs : List Running) → is_lent q (jobs_of rs) ≡ false → list_any (overlaps q) (all_loans rs) ≡ false
none_over q rs free = sym (lent_is q rs) ∙ free

pub free_at : (q : List (List ℕ)) (rs : List Running) (entries : List (Entry ℕ)) → IsWhole rs entries → is_lent q (jobs_of rs) ≡ false → value_at q entries ≡ None
free_at q rs entries whole free = whole.indexed q ∙ none_at q (all_loans rs) (none_over q rs free)

pub source_free : (lent : Option LentPart) (rs : List Running) (entries : List (Entry ℕ)) → IsWhole rs entries → is_source_lent lent (jobs_of rs) ≡ false → source_at lent entries ≡ None
source_free None rs entries whole free = refl
source_free (Some part) rs entries whole free = free_at part.path rs entries whole free

-- it is free too once the task has its loan
pub source_still : (lent : Option LentPart) (task : List (List ℕ)) (n : ℕ) (old new : List (Entry ℕ)) → IsIndex new (old ++ loan_at task n ∷ []) → source_at lent old ≡ None
    → is_source_over task lent ≡ false → source_at lent new ≡ None
source_still None task n old new same free apart = refl
source_still (Some part) task n old new same free apart = same part.path ∙ more_value part.path task n old (apart_other part.path task apart) ∙ free

one_more : (xs : List (Entry ℕ)) (task : List (List ℕ)) (n : ℕ) (lent : Option LentPart) → are_clear (xs ++ loan_at task n ∷ []) ≡ true
    → ((q : List (List ℕ)) → list_any (overlaps q) xs ≡ false → overlap q task ≡ false → list_any (overlaps q) (xs ++ loan_at task n ∷ []) ≡ false)
    → option_map_or (λ (part : LentPart). list_any (overlaps part.path) xs) lent false ≡ false → is_source_over task lent ≡ false
    → are_clear (xs ++ (loan_at task n ∷ source_loan n lent)) ≡ true
one_more xs task n None clear over free apart = clear
one_more xs task n (Some part) clear over free apart =
    ap are_clear (sym (append_assoc xs (loan_at task n ∷ []) (loan_at part.path n ∷ [])))
    ∙ more_clear (xs ++ loan_at task n ∷ []) (loan_at part.path n) clear (over part.path free apart)

source_none : (lent : Option LentPart) (rs : List Running) → is_source_lent lent (jobs_of rs) ≡ false
    → option_map_or (λ (part : LentPart). list_any (overlaps part.path) (all_loans rs)) lent false ≡ false
source_none None rs free = refl
source_none (Some part) rs free = none_over part.path rs free

loans_more : (rs : List Running) (r : Running) → all_loans (rs ++ r ∷ []) ≡ all_loans rs ++ loans_of r
loans_more rs r = flat_map-append loans_of rs (r ∷ []) ∙ ap (λ t. all_loans rs ++ t) (append-nil (loans_of r))

pub begun : (rs : List Running) (r : Running) (entries new : List (Entry ℕ)) → IsWhole rs entries → list_all (is_earlier r.card.job) rs ≡ true
    → is_lent (task_path r) (jobs_of rs) ≡ false → is_source_lent r.lent (jobs_of rs) ≡ false → is_source_over (task_path r) r.lent ≡ false
    → IsIndex new (entries ++ loans_of r) → IsWhole (rs ++ r ∷ []) new
begun rs r entries new whole later free source apart same = record {
  ascending = more_ascend r rs whole.ascending later;
  apart =
      ap are_clear (loans_more rs r)
      ∙ one_more (all_loans rs) (task_path r) r.card.job r.lent
      (more_clear (all_loans rs) (loan_at (task_path r) r.card.job) whole.apart (none_over (task_path r) rs free))
      (λ q none other.
      list_any-append (overlaps q) (all_loans rs) (loan_at (task_path r) r.card.job ∷ [])
      ∙ or_from (list_any (overlaps q) (all_loans rs)) (overlap q (task_path r) || false) none (or_from (overlap q (task_path r)) false other refl))
      (source_none r.lent rs source) apart;
  indexed = λ q.
      joined (all_loans rs) entries new [] (loans_of r) (λ p. whole.indexed p ∙ ap (value_at p) (sym (append-nil (all_loans rs)))) same q
      ∙ ap (value_at q) (sym (loans_more rs r));
}

-- ---- a job ends

loans_gone : (r : Running) (t xs ys : List (Entry ℕ)) → are_clear (xs ++ (loans_of r ++ ys)) ≡ true → IsIndex t (xs ++ (loans_of r ++ ys))
    → (are_clear (xs ++ ys) ≡ true) × IsIndex (without_loans r t) (xs ++ ys)
loans_gone r t xs ys clear same = by r.lent clear same
  where
    first : Entry ℕ
    first = loan_at (task_path r) r.card.job

    by : (lent : Option LentPart) → are_clear (xs ++ (first ∷ (source_loan r.card.job lent ++ ys))) ≡ true → IsIndex t (xs ++ (first ∷ (source_loan r.card.job lent ++ ys)))
        → (are_clear (xs ++ ys) ≡ true) × IsIndex (without_source lent (without (task_path r) t)) (xs ++ ys)
    by None clear same = ((around_clear xs first ys clear).1, one_gone t xs first ys clear same)
    by (Some part) clear same =
        let left = around_clear xs first (loan_at part.path r.card.job ∷ ys) clear in (
          (around_clear xs (loan_at part.path r.card.job) ys left.1).1,
          one_gone (without (task_path r) t) xs (loan_at part.path r.card.job) ys left.1 (one_gone t xs first (loan_at part.path r.card.job ∷ ys) clear same),
        )

pub ended : (n : ℕ) (rs news : List Running) (k : ℕ) (r : Running) (entries new : List (Entry ℕ)) → IsWhole rs entries → IsPlaceOf n rs k → r ≡ get_or rs k r
    → news ≡ take k rs ++ drop (k + 1) rs → new ≡ without_loans r entries → IsWhole news new
ended n rs news k r entries new whole place is left gone = record {
  ascending = ap (λ (l : List Running). are_ascending (map number_of l)) (left_is n rs news k r whole.ascending place left) ∙ left_ascend n rs whole.ascending;
  apart = ap are_clear rest ∙ both.0;
  indexed = λ q. ap (value_at q) gone ∙ both.1 q ∙ ap (value_at q) (sym rest);
}
  where
    rest : all_loans news ≡ all_loans (take k rs) ++ all_loans (drop (k + 1) rs)
    rest = ap all_loans left ∙ flat_map-append loans_of (take k rs) (drop (k + 1) rs)

    split : rs ≡ take k rs ++ r ∷ drop (k + 1) rs
    split =
        let one : suc k ≡ k + 1 = omega arith in
        split_at rs k r place.within ∙ ap (λ (x : Running). take k rs ++ x ∷ drop (suc k) rs) (sym is) ∙ ap (λ (i : ℕ). take k rs ++ r ∷ drop i rs) one

    loans : all_loans rs ≡ all_loans (take k rs) ++ (loans_of r ++ all_loans (drop (k + 1) rs))
    loans = ap all_loans split ∙ flat_map-append loans_of (take k rs) (r ∷ drop (k + 1) rs)

    both : (are_clear (all_loans (take k rs) ++ all_loans (drop (k + 1) rs)) ≡ true) × IsIndex (without_loans r entries) (all_loans (take k rs) ++ all_loans (drop (k + 1) rs))
    both =
        loans_gone r entries (all_loans (take k rs)) (all_loans (drop (k + 1) rs)) (ap are_clear (sym loans) ∙ whole.apart)
        (λ q. whole.indexed q ∙ ap (value_at q) loans)
