use Rattle.std.proofs.Common.{◌≡◌, [], List, arith, ap, length, refl, subst, sym, true}
use Rattle.std.specs.List.{list_all}
use Rattle.mat_model.specs.Kept.{KeptRow}
use Rattle.restart_scan.proofs.ReadRows.{allowed_few, few_result, kept_result, read_few, read_placed, store_result}
use Rattle.restart_scan.specs.Opened.{is_kept_placed}
use Rattle.restart_scan.specs.Rows as Spec
use Rattle.restart_scan.specs.Stores.{AreOf}
use Rattle.restart_scan.proofs.reading.read_rows.Goals as goal

pub returns-clause-store : goal.returns-clause-store
returns-clause-store c =
    store_result c.args.identity c.args.raws.now c.in_ok-rows.rows c.apart.result c.apart.ensures.same
    (subst (λ (l : List KeptRow). AreOf c.args.identity l c.args.raws.now) (sym c.in_ok-rows.ensures.rows) c.in_ok-kept.ensures.store)

pub returns-clause-kept : goal.returns-clause-kept
returns-clause-kept c =
    kept_result c.in_ok-rows.rows c.apart.result c.apart.ensures.same c.apart.ensures.apart
    (subst (λ (l : List KeptRow). list_all is_kept_placed l ≡ true) (sym c.in_ok-rows.ensures.rows)
    (read_placed c.args.identity [] (Spec.kept_in c.in_ok-kept.kept.entries) c.args.raws.now refl c.in_ok-kept.ensures.read))

pub returns-clause-few : goal.returns-clause-few
returns-clause-few c =
    few_result c.args.most c.in_ok-rows.rows c.apart.result c.apart.ensures.same
    (omega (
      arith,
      ap length c.in_ok-rows.ensures.rows,
      read_few c.args.identity [] (Spec.kept_in c.in_ok-kept.kept.entries) c.args.raws.now c.in_ok-kept.ensures.read,
      allowed_few c.args.most c.args.raws.now c.args.raws.now c.in_ok-allowed.ensures,
    ))
