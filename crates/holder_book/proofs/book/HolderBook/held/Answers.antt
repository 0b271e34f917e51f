use Rattle.std.proofs.Common.{◌∙◌, ap, List}
use Rattle.std.specs.List.{list_any}
use Rattle.mat_model.specs.declared.book.Hold.{Hold}
use Rattle.mat_model.specs.Cleaning.{holds_path}
use Rattle.holder_book.proofs.HeldLemmas.{held_is}
use Rattle.holder_book.proofs.book.HolderBook.held.Goals as goal

pub returns : goal.returns
returns c =
    c.overlaps.ensures ∙ held_is _ _ c.args.path.now c.self.invariant ∙ ap (λ (hs : List Hold). list_any (holds_path c.args.path.now) hs) c.self.view_is
