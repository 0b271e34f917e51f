use Rattle.std.proofs.Common.{inl, inr, refl, sym, ◌∙◌, ◌++◌, map, arith}
use Rattle.std.proofs.lemmas.Result.{err_from_is_err_and}
use Rattle.reapi_dir.specs.Grammar.{dir_name, file_name}
use Rattle.reapi_dir.specs.Reading.{next_link_read}
use Rattle.reapi_dir.proofs.Steps.{list_ends, list_has_fault, list_is_full, list_goes_on}
use Rattle.reapi_dir.proofs.read_list.read_links.Goals as goal

pub returns-then-left-eq0-clause-err : goal.returns-then-left-eq0-clause-err
returns-then-left-eq0-clause-err c =
    rw c.place.ensures
    (inr (list_is_full 26 (next_link_read (map file_name c.args.files.now ++ map dir_name c.args.dirs.now)) _ c.links.left c.links.links.items c.args.end c.links.rest.now c.links.invariant.read c.if-left-eq0.true
    (sym c.begins_with.ensures ∙ c.links-test.true)))

pub returns-in_err-link-clause-err : goal.returns-in_err-link-clause-err
returns-in_err-link-clause-err c =
    let p = err_from_is_err_and c.from_residual.result c.from_residual.ensures.1 in
    rw (p.1, p.2)
    (list_has_fault 26 (next_link_read (map file_name c.args.files.now ++ map dir_name c.args.dirs.now)) _ c.links.left c.links.links.items c.args.end c.links.rest.now _ c.links.invariant.read c.if-left-eq0.false
    (sym c.begins_with.ensures ∙ c.links-test.true) (rw c.as_slice.ensures.value at c.in_err-link.ensures.err))

pub returns-in_err-push-clause-err : goal.returns-in_err-push-clause-err
returns-in_err-push-clause-err c =
    let p = err_from_is_err_and c.from_residual-in_err-push.result c.from_residual-in_err-push.ensures.1 in
    rw (p.1, p.2) (inl refl)

pub links-preserved : goal.links-preserved
links-preserved c = record {
  read = list_goes_on 26 (next_link_read (map file_name c.args.files.now ++ map dir_name c.args.dirs.now)) _ c.links.left c.links.links.items c.args.end c.links.rest.now c.in_ok-link.link c.in_ok-link.behind.now _ c.links.invariant.read
      c.if-left-eq0.false (sym c.begins_with.ensures ∙ c.links-test.true) (rw c.as_slice.ensures.value at c.in_ok-link.ensures.ok) c.in_ok-push.ensures.items;
  within = omega (arith, c.in_ok-link.ensures.shorter, c.links.invariant.within);
}

pub returns-clause-ok : goal.returns-clause-ok
returns-clause-ok c =
    list_ends 26 (next_link_read (map file_name c.args.files.now ++ map dir_name c.args.dirs.now)) _ c.links.left c.links.links.items c.args.end c.links.rest.now c.links.invariant.read (sym c.begins_with.ensures ∙ c.links-test.false)
