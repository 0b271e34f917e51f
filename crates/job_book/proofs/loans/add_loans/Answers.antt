use Rattle.std.proofs.Common.{ap, List, ℕ, ◌∷◌, ◌++◌, [], ◌∙◌, subst}
use Rattle.path_trie.specs.Entries.{value_at}
use Rattle.job_book.specs.Numbers.{is_source_over}
use Rattle.job_book.specs.Loans.{loan_at, source_loan, IsIndex}
use Rattle.job_book.proofs.EntryLemmas.{joined, undone}
use Rattle.job_book.proofs.LoanLemmas.{source_still}
use Rattle.job_book.proofs.loans.add_loans.Goals as goal

pub add_source-requires : goal.add_source-requires
add_source-requires c =
    source_still c.args.running.now.lent c.path_of_task-path.result.now c.args.running.now.card.job c.args.loans.now c.add.new.loans c.if-not-add.ensures c.requires.source
    (ap (λ (p : List (List ℕ)). is_source_over p c.args.running.now.lent) c.path_of_task-path.ensures ∙ c.requires.apart)

pub returns-then-add_source : goal.returns-then-add_source
returns-then-add_source c =
    subst (λ (p : List (List ℕ)). IsIndex c.add_source.new.loans (c.args.loans.now ++ (loan_at p c.args.running.now.card.job ∷ source_loan c.args.running.now.card.job c.args.running.now.lent)))
    c.path_of_task-path.ensures
    (joined c.args.loans.now c.add.new.loans c.add_source.new.loans (loan_at c.path_of_task-path.result.now c.args.running.now.card.job ∷ [])
    (source_loan c.args.running.now.card.job c.args.running.now.lent) c.if-not-add.ensures c.if-add_source.ensures)

pub returns : goal.returns
returns c =
    undone c.args.loans.now c.add_source.new.loans c.remove.new.self c.path_of_task-path.result.now c.args.running.now.card.job
    (ap (λ (p : List (List ℕ)). value_at p c.args.loans.now) c.path_of_task-path.ensures ∙ c.requires.task)
    (λ q. c.if-add_source.ensures q ∙ c.if-not-add.ensures q) c.remove.ensures.list
