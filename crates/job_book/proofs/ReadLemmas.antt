-- Which job reads a part, and parts that are marked.
use Rattle.std.proofs.Common.{◌≡◌, ◌<◌, ℕ, suc, nat_lt, ◌==◌, Bool, true, false, ◌||◌, cond, List, [], ◌∷◌, ◌++◌, map, refl, ◌∙◌, sym, ap, ap₂, arith}
use Rattle.std.proofs.lemmas.Bool.{and_left, and_parts, eq-eqb, leb-true, ne_eqb, or_from, or_parts}
use Rattle.std.specs.List.{find, list_all, list_any}
use Rattle.std.specs.Option.{option_map, option_map_or, option_or}
use Rattle.std.specs.declared.option.Option.{Option}
use Rattle.std.specs.declared.option.Option.TheVariants.{Some, None}
use Rattle.mat_path.specs.Names.{same_names}
use Rattle.mat_model.specs.Books.{are_ascending}
use Rattle.mat_model.specs.WorkState.{is_job}
use Rattle.path_trie.specs.declared.entry.Entry.{Entry}
use Rattle.path_trie.specs.Entries.{value_at}
use Rattle.job_book.specs.declared.running.LentPart.{LentPart}
use Rattle.job_book.specs.declared.running.Running.{Running}
use Rattle.job_book.specs.Jobs.{job_of, jobs_of, lent_of}
use Rattle.job_book.specs.Numbers.{is_number, is_part_of, marked, marked_part, number_of, reads, task_path}
use Rattle.job_book.specs.Loans.{all_loans, are_clear, loan_at, loans_of, reads_found, source_loan, IsWhole}
use Rattle.job_book.proofs.EntryLemmas.{back_clear, front_clear, none_at, value_cons, value_join}
use Rattle.job_book.proofs.NumberLemmas.{first_less}

or_no : (b : Bool) → (b || false) ≡ b
or_no true = refl
or_no false = refl

-- ---- which job reads a part

source_none : (p : List (List ℕ)) (s n : ℕ) (lent : Option LentPart) → value_at p (source_loan n lent) ≡ None → option_map_or (is_part_of p s) lent false ≡ false
source_none p s n None h = refl
source_none p s n (Some part) h =
    and_left (same_names p part.path) (part.stamp == s) (by (same_names p part.path) (sym (value_cons p (loan_at part.path n) []) ∙ h))
  where
    by : (b : Bool) → cond b (Some n) None ≡ None → b ≡ false
    by true h = let lost : ◌≡◌ {A = Option ℕ} (Some n) None = h in absurd cc
    by false h = refl

-- a job without a loan at a path reads nothing there
own_none : (p : List (List ℕ)) (s : ℕ) (r : Running) → value_at p (loans_of r) ≡ None → reads p s r ≡ false
own_none p s r h = source_none p s r.card.job r.lent (by (same_names p (task_path r)) (sym (value_cons p (loan_at (task_path r) r.card.job) (source_loan r.card.job r.lent)) ∙ h))
  where
    by : (b : Bool) → cond b (Some r.card.job) (value_at p (source_loan r.card.job r.lent)) ≡ None → value_at p (source_loan r.card.job r.lent) ≡ None
    by true h = let lost : ◌≡◌ {A = Option ℕ} (Some r.card.job) None = h in absurd cc
    by false h = h

both_none : (o u : Option ℕ) → option_or o u ≡ None → (o ≡ None) × (u ≡ None)
both_none None u h = (refl, h)
both_none (Some n) u h = let lost : ◌≡◌ {A = Option ℕ} (Some n) None = h in absurd cc

nobody : (p : List (List ℕ)) (s : ℕ) (rs : List Running) → value_at p (all_loans rs) ≡ None → list_any (reads p s) rs ≡ false
nobody p s [] h = refl
nobody p s (r ∷ rs) h =
    let parts = both_none (value_at p (loans_of r)) (value_at p (all_loans rs)) (sym (value_join p (loans_of r) (all_loans rs)) ∙ h) in
    or_from (reads p s r) (list_any (reads p s) rs) (own_none p s r parts.0) (nobody p s rs parts.1)

-- a loan has the number of its job
source_value : (p : List (List ℕ)) (n v : ℕ) (lent : Option LentPart) → value_at p (source_loan n lent) ≡ Some v → n ≡ v
source_value p n v None h = let lost : ◌≡◌ {A = Option ℕ} None (Some v) = h in absurd cc
source_value p n v (Some part) h = by (same_names p part.path) (sym (value_cons p (loan_at part.path n) []) ∙ h)
  where
    by : (b : Bool) → cond b (Some n) None ≡ Some v → n ≡ v
    by true h = cc
    by false h = let lost : ◌≡◌ {A = Option ℕ} None (Some v) = h in absurd cc

own_value : (p : List (List ℕ)) (v : ℕ) (r : Running) → value_at p (loans_of r) ≡ Some v → r.card.job ≡ v
own_value p v r h = by (same_names p (task_path r)) (sym (value_cons p (loan_at (task_path r) r.card.job) (source_loan r.card.job r.lent)) ∙ h)
  where
    by : (b : Bool) → cond b (Some r.card.job) (value_at p (source_loan r.card.job r.lent)) ≡ Some v → r.card.job ≡ v
    by true h = cc
    by false h = source_value p r.card.job v r.lent h

later_value : (p : List (List ℕ)) (m v : ℕ) (rs : List Running) → list_all (nat_lt m) (map number_of rs) ≡ true → value_at p (all_loans rs) ≡ Some v → m < v
later_value p m v [] all h = let lost : ◌≡◌ {A = Option ℕ} None (Some v) = h in absurd cc
later_value p m v (r ∷ rs) all h =
    let parts = and_parts (nat_lt m (number_of r)) (list_all (nat_lt m) (map number_of rs)) all in
    by (value_at p (loans_of r)) refl (leb-true (suc m) (number_of r) parts.0) (later_value p m v rs parts.1) (sym (value_join p (loans_of r) (all_loans rs)) ∙ h)
  where
    by : (o : Option ℕ) → value_at p (loans_of r) ≡ o → m < number_of r → (value_at p (all_loans rs) ≡ Some v → m < v) → option_or o (value_at p (all_loans rs)) ≡ Some v → m < v
    by None is less more h = more h
    by (Some w) is less more h =
        let same : w ≡ v = cc in
        let own = own_value p w r is in omega (arith, less, same, own)

reading : (p : List (List ℕ)) (s : ℕ) (rs : List Running) → are_ascending (map number_of rs) ≡ true → are_clear (all_loans rs) ≡ true
    → reads_found p s (value_at p (all_loans rs)) rs ≡ list_any (reads p s) rs
reading p s [] ascend clear = refl
reading p s (r ∷ rs) ascend clear =
    ap (λ o. reads_found p s o (r ∷ rs)) (value_join p (loans_of r) (all_loans rs)) ∙ by (value_at p (loans_of r)) refl
    (reading p s rs (first_less r rs ascend).1 (back_clear (loans_of r) (all_loans rs) clear))
  where
    first : (v : ℕ) (b : Bool) → is_number v r ≡ b → reads_found p s (Some v) (r ∷ rs) ≡ option_map_or (reads p s) (cond b (Some r) (find (is_number v) rs)) false
    first v b is = ap (λ b. option_map_or (reads p s) (cond b (Some r) (find (is_number v) rs)) false) is

    behind : reads_found p s (value_at p (all_loans rs)) rs ≡ list_any (reads p s) rs → value_at p (loans_of r) ≡ None → (o : Option ℕ) → value_at p (all_loans rs) ≡ o → reads_found p s o (r ∷ rs) ≡ (reads p s r || list_any (reads p s) rs)
    behind more none None is = sym (or_from (reads p s r) (list_any (reads p s) rs) (own_none p s r none) (nobody p s rs is))
    behind more none (Some v) is =
        let parts = first_less r rs ascend in
        let late = later_value p (number_of r) v rs parts.0 is in
        first v false (ne_eqb r.card.job v (λ same. absurd (omega (arith, late, same))))
        ∙ ap (λ o. reads_found p s o rs) (sym is)
        ∙ more
        ∙ ap (λ b. b || list_any (reads p s) rs) (sym (own_none p s r none))

    by : (o : Option ℕ) → value_at p (loans_of r) ≡ o → reads_found p s (value_at p (all_loans rs)) rs ≡ list_any (reads p s) rs
        → reads_found p s (option_or o (value_at p (all_loans rs))) (r ∷ rs) ≡ (reads p s r || list_any (reads p s) rs)
    by None is more = behind more is (value_at p (all_loans rs)) refl
    by (Some v) is more =
        first v true (eq-eqb r.card.job v (own_value p v r is))
        ∙ sym
        (ap (λ b. reads p s r || b) (nobody p s rs (none_at p (all_loans rs) (front_clear p v (loans_of r) (all_loans rs) clear is))) ∙ or_no (reads p s r))

pub reading_found : (p : List (List ℕ)) (s : ℕ) (rs : List Running) (entries : List (Entry ℕ)) (o : Option ℕ) → IsWhole rs entries → o ≡ value_at p entries
    → reads_found p s o rs ≡ list_any (reads p s) rs
reading_found p s rs entries o whole is = ap (λ o. reads_found p s o rs) (is ∙ whole.indexed p) ∙ reading p s rs whole.ascending whole.apart

-- ---- the model's jobs

pub job_found : (n : ℕ) (rs : List Running) (o : Option Running) → o ≡ find (is_number n) rs → option_map job_of o ≡ find (is_job n) (jobs_of rs)
job_found n rs o is = ap (option_map job_of) is ∙ all rs
  where
    all : (rs : List Running) → option_map job_of (find (is_number n) rs) ≡ find (is_job n) (jobs_of rs)
    all [] = refl
    all (r ∷ rs) = by (is_number n r) (all rs)
      where
        by : (b : Bool) → option_map job_of (find (is_number n) rs) ≡ find (is_job n) (jobs_of rs)
            → option_map job_of (cond b (Some r) (find (is_number n) rs)) ≡ cond b (Some (job_of r)) (find (is_job n) (jobs_of rs))
        by true more = refl
        by false more = more

-- ---- parts that are marked

unmarked_part : (p : List (List ℕ)) (s : ℕ) (lent : Option LentPart) → option_map_or (is_part_of p s) lent false ≡ false → option_map (marked_part p s) lent ≡ lent
unmarked_part p s None h = refl
unmarked_part p s (Some part) h =
    ap (λ (b : Bool). Some (record part { cleaned = part.cleaned || b })) h ∙ ap (λ (b : Bool). Some (record part { cleaned = b })) (or_no part.cleaned)

pub unmarked : (p : List (List ℕ)) (s : ℕ) (rs : List Running) → list_any (reads p s) rs ≡ false → rs ≡ map (marked p s) rs
unmarked p s [] h = refl
unmarked p s (r ∷ rs) h =
    let parts = or_parts (reads p s r) (list_any (reads p s) rs) h in
    ap₂ (λ (x : Running) (xs : List Running). x ∷ xs) (ap (λ (l : Option LentPart). record r { lent = l }) (sym (unmarked_part p s r.lent parts.0))) (unmarked p s rs parts.1)

same_source : (p : List (List ℕ)) (s n : ℕ) (lent : Option LentPart) → source_loan n (option_map (marked_part p s) lent) ≡ source_loan n lent
same_source p s n None = refl
same_source p s n (Some part) = refl

same_lent : (p : List (List ℕ)) (s : ℕ) (lent : Option LentPart) → option_map lent_of (option_map (marked_part p s) lent) ≡ option_map lent_of lent
same_lent p s None = refl
same_lent p s (Some part) = refl

same_loans : (p : List (List ℕ)) (s : ℕ) (rs : List Running) → all_loans (map (marked p s) rs) ≡ all_loans rs
same_loans p s [] = refl
same_loans p s (r ∷ rs) =
    ap₂ (λ (x y : List (Entry ℕ)). loan_at (task_path r) r.card.job ∷ (x ++ y)) (same_source p s r.card.job r.lent) (same_loans p s rs)

same_numbers : (p : List (List ℕ)) (s : ℕ) (rs : List Running) → map number_of (map (marked p s) rs) ≡ map number_of rs
same_numbers p s [] = refl
same_numbers p s (r ∷ rs) = ap (λ (l : List ℕ). number_of r ∷ l) (same_numbers p s rs)

same_jobs : (p : List (List ℕ)) (s : ℕ) (rs : List Running) → jobs_of (map (marked p s) rs) ≡ jobs_of rs
same_jobs p s [] = refl
same_jobs p s (r ∷ rs) =
    ap (λ l. record { number = r.card.job; caller = r.caller; task = r.card.task; lent = l } ∷ jobs_of (map (marked p s) rs)) (same_lent p s r.lent)
    ∙ ap (λ l. job_of r ∷ l) (same_jobs p s rs)

pub jobs_marked : (p : List (List ℕ)) (s : ℕ) (rs news : List Running) → news ≡ map (marked p s) rs → jobs_of news ≡ jobs_of rs
jobs_marked p s rs news is = ap jobs_of is ∙ same_jobs p s rs

pub whole_marked : (p : List (List ℕ)) (s : ℕ) (rs news : List Running) (entries : List (Entry ℕ)) → IsWhole rs entries → news ≡ map (marked p s) rs → IsWhole news entries
whole_marked p s rs news entries whole is = record {
  ascending = ap (λ (l : List Running). are_ascending (map number_of l)) is ∙ ap are_ascending (same_numbers p s rs) ∙ whole.ascending;
  apart = ap (λ (l : List Running). are_clear (all_loans l)) is ∙ ap are_clear (same_loans p s rs) ∙ whole.apart;
  indexed = λ q. whole.indexed q ∙ ap (value_at q) (sym (same_loans p s rs) ∙ ap all_loans (sym is));
}
