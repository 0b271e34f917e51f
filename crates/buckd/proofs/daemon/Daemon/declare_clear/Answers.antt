use Rattle.std.proofs.Common.{ap, ◌∙◌, refl}
use Rattle.mat_model.specs.declared.book.Row.{Row}
use Rattle.mat_model.specs.Declarations.{new_row}
use Rattle.mat_model.specs.Rows.{put_row}
use Rattle.buckd.proofs.Kept.{kept-declared}
use Rattle.buckd.proofs.daemon.Daemon.declare_clear.Goals as goal

pub returns-clause-kept : goal.returns-clause-kept
returns-clause-kept c = λ entry same.
    kept-declared c.args.self.now _
    (new_row c.number-number.result 0 c.args.path.now c.args.tree) c.args.method entry
    c.requires.kept c.requires.clear
    (c.in_ok-put_row.ensures ∙ ap (λ (row : Row). put_row row c.args.self.now.rows.items) c.in_ok-row.ensures.row)
    refl c.number-number.ensures c.new_row.ensures.tree c.requires.places c.requires.bytes
    c.in_ok-keep_method.ensures.others
    c.in_ok-keep_method.ensures.found
    refl refl refl same
