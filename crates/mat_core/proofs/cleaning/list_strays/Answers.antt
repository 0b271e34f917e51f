use Rattle.std.proofs.Common.{sym, ap, ◌∙◌, ◌++◌, ◌∷◌, [], cond, arith}
use Rattle.std.proofs.lemmas.Option.{slice_get_within}
use Rattle.mat_model.specs.WorkState.{is_stray, path_of_debris}
use Rattle.job_book.specs.Jobs.{jobs_of}
use Rattle.mat_core.proofs.CleanLemmas.{picked_all, picked_on}
use Rattle.mat_core.proofs.cleaning.list_strays.Goals as goal

pub overflow_add-place : goal.overflow_add-place
overflow_add-place c =
    let less = slice_get_within c.args.debris.now.list c.debris.place _ (sym c.in-Some.ensures) in
    let most = c.len-most.ensures in omega (arith, less, most)

pub debris-smaller : goal.debris-smaller
debris-smaller c = let less = slice_get_within c.args.debris.now.list c.debris.place _ (sym c.in-Some.ensures) in omega (arith, less)

pub debris-preserved : goal.debris-preserved
debris-preserved c =
    picked_on path_of_debris (is_stray (jobs_of c.args.jobs.now)) c.args.debris.now.list c.debris.place
    (record { path = c.in-Some.path.now; condemned = c.in-Some.condemned }) c.debris.paths.items c.push_if.new.paths.items _
    (sym c.in-Some.ensures) c.debris.invariant
    (c.in_ok-push_if.ensures ∙ ap (λ b. cond b (c.debris.paths.items ++ c.in-Some.path.now ∷ []) c.debris.paths.items) c.is_stray.ensures)

pub returns : goal.returns
returns c =
    picked_all path_of_debris (is_stray (jobs_of c.args.jobs.now)) c.args.debris.now.list c.debris.place c.debris.paths.items _
    (sym c.in_default.ensures) c.debris.invariant
