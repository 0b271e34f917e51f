use Rattle.std.proofs.Common.{inl, inr, refl, sym, ◌∙◌, arith}
use Rattle.std.proofs.lemmas.Result.{err_from_is_err_and}
use Rattle.reapi_dir.specs.Reading.{next_file_read}
use Rattle.reapi_dir.proofs.Steps.{list_ends, list_has_fault, list_is_full, list_goes_on}
use Rattle.reapi_dir.proofs.read_list.read_files.Goals as goal

pub returns-then-left-eq0-clause-err : goal.returns-then-left-eq0-clause-err
returns-then-left-eq0-clause-err c =
    rw c.place.ensures
    (inr (list_is_full 10 next_file_read _ c.files.left c.files.files.items c.args.end c.files.rest.now c.files.invariant.read c.if-left-eq0.true
    (sym c.begins_with.ensures ∙ c.files-test.true)))

pub returns-in_err-file-clause-err : goal.returns-in_err-file-clause-err
returns-in_err-file-clause-err c =
    let p = err_from_is_err_and c.from_residual.result c.from_residual.ensures.1 in
    rw (p.1, p.2)
    (list_has_fault 10 next_file_read _ c.files.left c.files.files.items c.args.end c.files.rest.now _ c.files.invariant.read c.if-left-eq0.false
    (sym c.begins_with.ensures ∙ c.files-test.true) (rw c.as_slice.ensures.value at c.in_err-file.ensures.err))

pub returns-in_err-push-clause-err : goal.returns-in_err-push-clause-err
returns-in_err-push-clause-err c =
    let p = err_from_is_err_and c.from_residual-in_err-push.result c.from_residual-in_err-push.ensures.1 in
    rw (p.1, p.2) (inl refl)

pub files-preserved : goal.files-preserved
files-preserved c = record {
  read = list_goes_on 10 next_file_read _ c.files.left c.files.files.items c.args.end c.files.rest.now c.in_ok-file.file c.in_ok-file.behind.now _ c.files.invariant.read
      c.if-left-eq0.false (sym c.begins_with.ensures ∙ c.files-test.true) (rw c.as_slice.ensures.value at c.in_ok-file.ensures.ok) c.in_ok-push.ensures.items;
  within = omega (arith, c.in_ok-file.ensures.shorter, c.files.invariant.within);
}

pub returns-clause-ok : goal.returns-clause-ok
returns-clause-ok c =
    list_ends 10 next_file_read _ c.files.left c.files.files.items c.args.end c.files.rest.now c.files.invariant.read (sym c.begins_with.ensures ∙ c.files-test.false)
