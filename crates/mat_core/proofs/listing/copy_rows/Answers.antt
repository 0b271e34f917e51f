use Rattle.std.proofs.Common.{◌≡◌, ◌∙◌, ◌++◌, ◌∷◌, [], ◌+◌, ◌<◌, ap, sym, subst, filter, find, length, length-append, arith}
use Rattle.row_book.specs.Stocks.{is_past, rows_of}
use Rattle.mat_core.proofs.ListLemmas.{all_ahead, last_of, rows_all, rows_fewer, rows_on}
use Rattle.mat_core.proofs.listing.copy_rows.Goals as goal

pub rows-init : goal.rows-init
rows-init c =
    subst (λ cs. cs ++ rows_of (filter (is_past (last_of cs)) c.args.rows.now) ≡ rows_of c.args.rows.now) (sym c.new-copies.ensures.items)
    (ap rows_of (all_ahead c.args.rows.now))

pub rows-smaller : goal.rows-smaller
rows-smaller c =
    let grown : length c.push.new.self.items ≡ length c.rows.copies.items + 1 =
    ap length c.in_ok-push.ensures.items ∙ length-append c.rows.copies.items (c.in_ok-copy.field-0 ∷ []) in
    let less : length c.rows.copies.items < length (rows_of c.args.rows.now) =
    rows_fewer c.rows.copies.items c.args.rows.now c.in-Some.stock.now c.is_in_order.ensures
    (ap (λ l. find (is_past l) c.args.rows.now) (sym (c.last_path.ensures ∙ ap last_of c.as_slice.ensures.value)) ∙ sym c.in-Some.ensures)
    c.rows.invariant in
    omega (arith, grown, less)

pub rows-preserved : goal.rows-preserved
rows-preserved c =
    subst (λ cs. cs ++ rows_of (filter (is_past (last_of cs)) c.args.rows.now) ≡ rows_of c.args.rows.now)
    (sym (c.in_ok-push.ensures.items ∙ ap (λ r. c.rows.copies.items ++ r ∷ []) c.in_ok-copy.ensures.ok))
    (rows_on c.rows.copies.items c.args.rows.now c.in-Some.stock.now c.is_in_order.ensures
    (ap (λ l. find (is_past l) c.args.rows.now) (sym (c.last_path.ensures ∙ ap last_of c.as_slice.ensures.value)) ∙ sym c.in-Some.ensures)
    c.rows.invariant)

pub returns : goal.returns
returns c =
    rows_all c.rows.copies.items c.args.rows.now
    (ap (λ l. find (is_past l) c.args.rows.now) (sym (c.last_path.ensures ∙ ap last_of c.as_slice.ensures.value)) ∙ sym c.in_default.ensures)
    c.rows.invariant
