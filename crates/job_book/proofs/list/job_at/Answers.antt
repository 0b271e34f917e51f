use Rattle.std.proofs.Common.{Some, ap, sym, ◌∙◌}
use Rattle.job_book.specs.declared.running.Running.{Running}
use Rattle.job_book.proofs.NumberLemmas.{one_found}
use Rattle.job_book.proofs.list.job_at.Goals as goal

pub returns-in-Some : goal.returns-in-Some
returns-in-Some c =
    let found = c.in-Some.ensures.found in
    ap (λ (r : Running). Some r) c.index-list-place.is
    ∙ sym (one_found c.args.number c.args.list.now c.in-Some.place c.index-list-place.result found.within found.front (found.at c.index-list-place.result))
