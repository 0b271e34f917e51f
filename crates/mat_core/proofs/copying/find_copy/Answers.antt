use Rattle.std.proofs.Common.{◌≡◌, IfOk, Option, subst}
use Rattle.std.specs.Option.{option_and_then}
use Rattle.row_book.specs.declared.stock.Stock.{Stock}
use Rattle.mat_core.specs.Copying.{copied_at}
use Rattle.mat_core.proofs.CopyLemmas.{found_above}
use Rattle.mat_core.proofs.copying.find_copy.Goals as goal

pub copied_from-requires : goal.copied_from-requires
copied_from-requires c = found_above c.args.rows.now c.args.source.now c.in-Some.stock.now c.in-Some.ensures.stock

pub returns-in-Some : goal.returns-in-Some
returns-in-Some c =
    subst (λ (o : Option Stock). IfOk c.copied_from.result (λ found. found ≡ option_and_then (copied_at c.args.source.now) o)) c.in-Some.ensures.stock
    c.copied_from.ensures
