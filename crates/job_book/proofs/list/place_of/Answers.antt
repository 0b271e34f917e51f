use Rattle.std.proofs.Common.{rules, ap, sym, ◌∙◌}
use Rattle.job_book.specs.Numbers.{is_number}
use Rattle.job_book.proofs.NumberLemmas.{none_found, same_at}
use Rattle.job_book.proofs.list.place_of.Goals as goal
use Rattle.job_book.proofs.list.place_of.Goals.{else-place-list-via-then-place-list+else-list-place, else-place-list-via-else-place-list}

pub returns-clause-absent : goal.returns-clause-absent
returns-clause-absent c =
    none_found c.args.number c.args.list.now c.place_from-place.result c.requires c.place_from-place.ensures.front c.place_from-place.ensures.back
    (λ d within. elim c.else-place-list.branch [
      | else-place-list-via-then-place-list+else-list-place w ↦
          ap (is_number c.args.number) (same_at c.args.list.now c.place_from-place.result d w.index-list-place.result within ∙ sym w.index-list-place.is) ∙ search rules
      | else-place-list-via-else-place-list w ↦ search rules
    ])
