use Rattle.std.proofs.Common.{inl, inr, refl, sym, ◌∙◌, map, arith}
use Rattle.std.proofs.lemmas.Result.{err_from_is_err_and}
use Rattle.reapi_dir.specs.Grammar.{file_name}
use Rattle.reapi_dir.specs.Reading.{next_dir_read}
use Rattle.reapi_dir.proofs.Steps.{list_ends, list_has_fault, list_is_full, list_goes_on}
use Rattle.reapi_dir.proofs.read_list.read_dirs.Goals as goal

pub returns-then-left-eq0-clause-err : goal.returns-then-left-eq0-clause-err
returns-then-left-eq0-clause-err c =
    rw c.place.ensures
    (inr (list_is_full 18 (next_dir_read (map file_name c.args.files.now)) _ c.dirs.left c.dirs.dirs.items c.args.end c.dirs.rest.now c.dirs.invariant.read c.if-left-eq0.true
    (sym c.begins_with.ensures ∙ c.dirs-test.true)))

pub returns-in_err-dir-clause-err : goal.returns-in_err-dir-clause-err
returns-in_err-dir-clause-err c =
    let p = err_from_is_err_and c.from_residual.result c.from_residual.ensures.1 in
    rw (p.1, p.2)
    (list_has_fault 18 (next_dir_read (map file_name c.args.files.now)) _ c.dirs.left c.dirs.dirs.items c.args.end c.dirs.rest.now _ c.dirs.invariant.read c.if-left-eq0.false
    (sym c.begins_with.ensures ∙ c.dirs-test.true) (rw c.as_slice.ensures.value at c.in_err-dir.ensures.err))

pub returns-in_err-push-clause-err : goal.returns-in_err-push-clause-err
returns-in_err-push-clause-err c =
    let p = err_from_is_err_and c.from_residual-in_err-push.result c.from_residual-in_err-push.ensures.1 in
    rw (p.1, p.2) (inl refl)

pub dirs-preserved : goal.dirs-preserved
dirs-preserved c = record {
  read = list_goes_on 18 (next_dir_read (map file_name c.args.files.now)) _ c.dirs.left c.dirs.dirs.items c.args.end c.dirs.rest.now c.in_ok-dir.dir c.in_ok-dir.behind.now _ c.dirs.invariant.read
      c.if-left-eq0.false (sym c.begins_with.ensures ∙ c.dirs-test.true) (rw c.as_slice.ensures.value at c.in_ok-dir.ensures.ok) c.in_ok-push.ensures.items;
  within = omega (arith, c.in_ok-dir.ensures.shorter, c.dirs.invariant.within);
}

pub returns-clause-ok : goal.returns-clause-ok
returns-clause-ok c =
    list_ends 18 (next_dir_read (map file_name c.args.files.now)) _ c.dirs.left c.dirs.dirs.items c.args.end c.dirs.rest.now c.dirs.invariant.read (sym c.begins_with.ensures ∙ c.dirs-test.false)
