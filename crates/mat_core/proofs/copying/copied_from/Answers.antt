use Rattle.std.proofs.Common.{◌≡◌, true, length, sym, subst}
use Rattle.mat_path.specs.Names.{is_rel}
use Rattle.mat_core.proofs.CopyLemmas.{below_is, rest_is_rel}
use Rattle.mat_core.proofs.copying.copied_from.Goals as goal

pub method_from-requires : goal.method_from-requires
method_from-requires c =
    subst (λ r. is_rel r ≡ true) (sym (below_is c.args.stock.now.row.path c.args.source.now c.in-Some.rest.now c.in-Some.ensures))
    (rest_is_rel (length c.args.stock.now.row.path) c.args.source.now c.names-names.ensures.path)
